use Rattle.std.proofs.Common.{◌≡◌, cond, eqb, subst, ◌+◌, ◌<◌, ◌++◌, ◌∷◌, [], length, take, ap, ap₂, get_or, sym, ◌∙◌, append-nil, append_assoc, arith, rules}
use Rattle.std.specs.List.{flat_map}
use Rattle.std.proofs.lemmas.List.{take_all}
use Rattle.std.proofs.lemmas.Result.{on_ok_weaker}
use Rattle.cutplan.specs.Check.{cells}
use Rattle.cutplan.specs.CompiledColumns.{regions_kept, AreMasked}
use Rattle.cutplan.specs.Masks.{rules_in, is_marked, AreMasks, HasOnlyFirst, Marks}
use Rattle.cutplan.specs.CheckSteps.{uncovered}
use Rattle.cutplan.specs.Places.{places}
use Rattle.regions.specs.declared.region.Region.TheVariants.{Every}
use Rattle.cutplan.proofs.Meeting.{alive_are, alive_rules, mask_here, masks_long, no_columns}
use Rattle.cutplan.proofs.Places.{cells_more, cells_with, cells_within, end_count, end_places, got_alike, places_more}
use Rattle.cutplan.proofs.gap.+walk_cells.Goals as goal

pub loop-mask-init : goal.loop-mask-init
loop-mask-init m c = record { found = sym (append-nil _); passed = omega arith }

pub walk_cells-requires : goal.walk_cells-requires
walk_cells-requires m c =
    let t = c.args.table.now in
    let place = c.args.place in
    let column = c.in-Some.column.now in
    let more = regions_kept c.in-Some.more.now in
    let regions = get_or (regions_kept c.args.columns.now) 0 [] in
    let split : c.args.columns.now ≡ column ∷ c.in-Some.more.now = c.in-Some.ensures.cases.0 in
    let first : column.partition.regions.items ≡ regions = sym (ap (λ cs. get_or (regions_kept cs) 0 []) split) in
    let masked : AreMasked t place (column ∷ c.in-Some.more.now) = subst (AreMasked t place) split c.requires.masks in
    let at = c.loop-mask.mask-index in
    let count = masks_long t place column.partition.regions.items column.masks masked.0 in
    let below : at < length regions = omega (arith, c.loop-mask-test.true, ap length c.as_slice-mask-items.ensures, count, ap length first) in
    let long = c.in-Some.ensures.cases.1 in
    let far = c.requires.far in
    let room = c.requires.room in
    let passed = c.loop-mask.invariant.passed in
    let whole = ap (λ cs. length (cells (regions_kept cs))) split ∙ ap (λ rs. length (cells (rs ∷ more))) first in
    let step = cells_more regions more at Every below in
    let within = cells_within regions more (at + 1) in (
      search rules,
      (
        omega (arith, long, far),
        (
          c.requires.few,
          (
            masked.1,
            (
              alive_rules (length t.rules) c.args.rules.now c.mask-item.result c.meet-left.result c.requires.rules c.meet-left.ensures.has,
              omega (arith, room, passed, whole, step, within),
            ),
          ),
        ),
      ),
    )

pub loop-mask-preserved : goal.loop-mask-preserved
loop-mask-preserved m c =
    let t = c.args.table.now in
    let place = c.args.place in
    let column = c.in-Some.column.now in
    let more = regions_kept c.in-Some.more.now in
    let regions = get_or (regions_kept c.args.columns.now) 0 [] in
    let split : c.args.columns.now ≡ column ∷ c.in-Some.more.now = c.in-Some.ensures.cases.0 in
    let first : column.partition.regions.items ≡ regions = sym (ap (λ cs. get_or (regions_kept cs) 0 []) split) in
    let masked : AreMasked t place (column ∷ c.in-Some.more.now) = subst (AreMasked t place) split c.requires.masks in
    let all : AreMasks t place regions column.masks = subst (λ rs. AreMasks t place rs column.masks) first masked.0 in
    let listed = c.as_slice-mask-items.ensures in
    let at = c.loop-mask.mask-index in
    let mask = c.mask-item.result in
    let before = c.loop-mask.invariant in
    let done = c.in_ok-walk_cells-in-Some.ensures in
    let count = masks_long t place regions column.masks all in
    let below : at < length regions = omega (arith, c.loop-mask-test.true, ap length listed, count) in
    let r = get_or regions at Every in
    let rules = rules_in (length t.rules) c.args.rules.now in
    let mask_is : get_or column.masks at mask ≡ mask = sym (c.mask-item.is ∙ ap (λ ms. get_or ms at mask) listed) in
    let marks = subst (Marks (is_marked t place r)) mask_is (mask_here t place regions column.masks at r mask all below (got_alike regions at Every r below)) in
    let alive = alive_are t place r c.args.rules.now mask c.meet-left.result c.requires.few marks c.meet-left.ensures.has in
    let following = ap₂ (λ places_left k. places (uncovered t (place + 1) places_left) k (cells more)) alive before.passed in
    let step = places_more t place rules regions more at c.args.walk.now.passed Every below in
    let count = cells_more regions more at Every below in
    let was = before.passed in
    let now = done.passed in
    record {
      found = done.found ∙ ap₂ (λ front last. front ++ last) before.found following ∙ append_assoc c.args.walk.now.found.items _ _ ∙ ap (λ end. c.args.walk.now.found.items ++ end) (sym step);
      passed = omega (arith, was, now, count);
    }

pub returns-after-loop-mask : goal.returns-after-loop-mask
returns-after-loop-mask m c =
    let t = c.args.table.now in
    let place = c.args.place in
    let column = c.in-Some.column.now in
    let more = regions_kept c.in-Some.more.now in
    let regions = get_or (regions_kept c.args.columns.now) 0 [] in
    let split : c.args.columns.now ≡ column ∷ c.in-Some.more.now = c.in-Some.ensures.cases.0 in
    let first : column.partition.regions.items ≡ regions = sym (ap (λ cs. get_or (regions_kept cs) 0 []) split) in
    let masked : AreMasked t place (column ∷ c.in-Some.more.now) = subst (AreMasked t place) split c.requires.masks in
    let count = masks_long t place column.partition.regions.items column.masks masked.0 in
    let end = c.loop-mask.invariant in
    let all : take c.loop-mask.mask-index regions ≡ regions =
    take_all c.loop-mask.mask-index regions (omega (arith, c.loop-mask-test.false, ap length c.as_slice-mask-items.ensures, count, ap length first)) in
    let whole : cells (regions ∷ more) ≡ cells (regions_kept c.args.columns.now) = sym (ap (λ cs. cells (regions_kept cs)) split ∙ ap (λ rs. cells (rs ∷ more)) first) in
    let cells_are = ap (flat_map (cells_with more)) all ∙ whole in
    record {
      found = end.found ∙ ap (λ cs. c.args.walk.now.found.items ++ places (uncovered t place (rules_in (length t.rules) c.args.rules.now)) c.args.walk.now.passed cs) cells_are;
      passed = end.passed ∙ ap (λ cs. c.args.walk.now.passed + length cs) cells_are;
    }

pub walk_end-requires : goal.walk_end-requires
walk_end-requires m c =
    let none = no_columns c.args.columns.now (omega (arith, c.in-None.ensures.cases)) in
    let room = c.requires.room in
    let one = end_count (regions_kept c.args.columns.now) none in
    record {
      few = omega (arith, c.requires.few, c.len.ensures);
      rules = subst (λ n. HasOnlyFirst n c.args.rules.now) (sym c.len.ensures) c.requires.rules;
      room = omega (arith, room, one);
    }

pub returns-in-None : goal.returns-in-None
returns-in-None m c =
    let t = c.args.table.now in
    let walk = c.args.walk.now in
    let columns = regions_kept c.args.columns.now in
    let none : length columns ≡ 0 = no_columns c.args.columns.now (omega (arith, c.in-None.ensures.cases)) in
    let ends = ap (λ n. cond (eqb (length (rules_in n c.args.rules.now)) 0) (walk.passed ∷ []) []) c.len.ensures ∙ sym (end_places t c.args.place (rules_in (length t.rules) c.args.rules.now) walk.passed columns none) in
    record {
      found = on_ok_weaker c.walk_end.result (λ is. is ∙ ap (λ end. walk.found.items ++ end) ends) c.walk_end.ensures.found;
      passed = on_ok_weaker c.walk_end.result (λ is. is ∙ ap (λ n. walk.passed + n) (sym (end_count columns none))) c.walk_end.ensures.passed;
    }
