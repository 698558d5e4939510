use Rattle.std.proofs.Common.{◌++◌, ap, arith, length, subst, sym, ◌∙◌}
use Rattle.std.proofs.lemmas.List.{nil_from_length}
use Rattle.std.specs.Prelude.{nat_lt}
use Rattle.cutplan.specs.CompiledColumns.{regions_kept}
use Rattle.cutplan.specs.Check.{cells}
use Rattle.cutplan.specs.Masks.{Marks, rules_in}
use Rattle.cutplan.specs.CheckSteps.{uncovered}
use Rattle.cutplan.specs.Places.{is_gap, places}
use Rattle.cutplan.proofs.Places.{gap_places_are}
use Rattle.cutplan.proofs.Meeting.{first_are, first_rules}
use Rattle.cutplan.proofs.gap.gap_places.Goals as goal

pub returns-then-count-gt-CELL_LIMIT : goal.returns-then-count-gt-CELL_LIMIT
returns-then-count-gt-CELL_LIMIT c =
    let count = c.count_cells-count.ensures in
    let wide = c.if-count-gt-CELL_LIMIT.true in
    omega (arith, count, wide)

pub returns-then-count-eq0 : goal.returns-then-count-eq0
returns-then-count-eq0 c =
    let count = c.count_cells-count.ensures in
    let zero = c.if-count-eq0.true in
    let none = nil_from_length (cells (regions_kept c.args.columns.now)) (omega (arith, count, zero)) in
    (omega (arith, count, zero), c.new.ensures.items ∙ ap (places (is_gap c.args.table.now) 0) (sym none))

pub walk_cells-requires : goal.walk_cells-requires
walk_cells-requires c =
    let t = c.args.table.now in
    let marks = subst (λ n. Marks (λ place. nat_lt place n) c.first_rules-rules.result) c.len.ensures c.first_rules-rules.ensures in
    let count = c.count_cells-count.ensures in
    let narrow = c.if-count-gt-CELL_LIMIT.false in
    record {
      far = (let few = c.requires.far in omega (arith, few));
      few = c.requires.few;
      masks = c.requires.masks;
      rules = first_rules (length t.rules) c.first_rules-rules.result marks;
      room = omega (arith, count, narrow);
    }

pub returns : goal.returns
returns c =
    let t = c.args.table.now in
    let columns = regions_kept c.args.columns.now in
    let marks = subst (λ n. Marks (λ place. nat_lt place n) c.first_rules-rules.result) c.len.ensures c.first_rules-rules.ensures in
    let count = c.count_cells-count.ensures in
    let narrow = c.if-count-gt-CELL_LIMIT.false in
    let rules = first_are (length t.rules) c.first_rules-rules.result c.requires.few marks in (
      omega (arith, count, narrow),
      c.in_ok-walk_cells.ensures.found ∙ ap (λ front. front ++ places (uncovered t 0 (rules_in (length t.rules) c.first_rules-rules.result)) 0 (cells columns)) c.new-2.ensures.items ∙ ap (λ found. places (uncovered t 0 found) 0 (cells columns)) rules ∙ gap_places_are t columns,
    )
