use Rattle.std.proofs.Common.{◌≡◌, ◌<◌, ◌/◌, ◌%◌, ◌++◌, ◌∷◌, [], ap, append_assoc, get_or, length, subst, sym, ◌∙◌, rules}
use Rattle.std.proofs.lemmas.Result.{on_ok_weaker}
use Rattle.cutplan.specs.Check.{cells}
use Rattle.cutplan.specs.CompiledColumns.{regions_kept}
use Rattle.cutplan.proofs.CellPlaces.{kept_cell_at}
use Rattle.cutplan.proofs.gap.+push_regions.Goals as goal

pub nonzero_div-first : goal.nonzero_div-first
nonzero_div-first m c = (kept_cell_at c.args.columns.now c.in-Some.column.now c.in-Some.more.now c.args.place c.count_cells-following.result c.in-Some.ensures.cases.0 c.requires.narrow c.requires.within c.count_cells-following.ensures).some

pub nonzero_rem-place : goal.nonzero_rem-place
nonzero_rem-place m c = (kept_cell_at c.args.columns.now c.in-Some.column.now c.in-Some.more.now c.args.place c.count_cells-following.result c.in-Some.ensures.cases.0 c.requires.narrow c.requires.within c.count_cells-following.ensures).some

pub bounds-regions-first : goal.bounds-regions-first
bounds-regions-first m c =
    let here = kept_cell_at c.args.columns.now c.in-Some.column.now c.in-Some.more.now c.args.place c.count_cells-following.result c.in-Some.ensures.cases.0 c.requires.narrow c.requires.within c.count_cells-following.ensures in
    subst (λ rs. c.args.place / c.count_cells-following.result < length rs) (sym c.as_slice-regions.ensures.value) here.first

pub push_regions-requires : goal.push_regions-requires
push_regions-requires m c =
    let here = kept_cell_at c.args.columns.now c.in-Some.column.now c.in-Some.more.now c.args.place c.count_cells-following.result c.in-Some.ensures.cases.0 c.requires.narrow c.requires.within c.count_cells-following.ensures in
    (search rules, (here.narrow, here.rest))

pub returns-in_ok-push-in-Some : goal.returns-in_ok-push-in-Some
returns-in_ok-push-in-Some m c =
    let here = kept_cell_at c.args.columns.now c.in-Some.column.now c.in-Some.more.now c.args.place c.count_cells-following.result c.in-Some.ensures.cases.0 c.requires.narrow c.requires.within c.count_cells-following.ensures in
    let at = c.args.place / c.count_cells-following.result in
    let old = c.args.cell.now in
    let region = c.index-regions-first.result in
    let rest = get_or (cells (regions_kept c.in-Some.more.now)) (c.args.place % c.count_cells-following.result) [] in
    let first = c.index-regions-first.is ∙ ap (λ rs. get_or rs at region) c.as_slice-regions.ensures.value in
    let whole : get_or (cells (regions_kept c.args.columns.now)) c.args.place [] ≡ region ∷ rest =
    ap (λ cs. get_or (cells (regions_kept cs)) c.args.place []) c.in-Some.ensures.cases.0 ∙ here.cell region ∙ ap (λ r. r ∷ rest) (sym first) in
    on_ok_weaker c.push_regions.result
    (λ is. is ∙ ap (λ front. front ++ rest) (c.in_ok-push-in-Some.ensures.ok ∙ ap (λ r. old ++ r ∷ []) c.in_ok-duplicate-in-Some.ensures) ∙ append_assoc old (region ∷ []) rest ∙ ap (λ end. old ++ end) (sym whole)) c.push_regions.ensures
