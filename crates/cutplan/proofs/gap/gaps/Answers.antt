use Rattle.std.proofs.Common.{◌<◌, [], Some, ap, get_or, length, map, subst, sym, ◌∙◌}
use Rattle.std.specs.List.{All}
use Rattle.cutplan.specs.CompiledColumns.{regions_kept}
use Rattle.cutplan.specs.Check.{cells}
use Rattle.cutplan.specs.Places.{is_gap, ArePlaces}
use Rattle.cutplan.proofs.CellPlaces.{cells_at_places, places_within}
use Rattle.cutplan.proofs.gap.gaps.Goals as goal

pub cells_at-requires : goal.cells_at-requires
cells_at-requires c =
    let all = cells (regions_kept c.args.columns.now) in
    let test = is_gap c.args.table.now in
    let found : ArePlaces all test (Some c.in-Some.places) = subst (ArePlaces all test) c.in-Some.is c.in_ok-places.ensures in
    record {
      narrow = found.0;
      within = subst (All (λ n. n < length all)) (sym (c.as_slice.ensures.value ∙ found.1)) (places_within test all);
    }

pub returns-in_ok-cells_at-in-Some-clause-listed : goal.returns-in_ok-cells_at-in-Some-clause-listed
returns-in_ok-cells_at-in-Some-clause-listed c =
    let all = cells (regions_kept c.args.columns.now) in
    let test = is_gap c.args.table.now in
    let found : ArePlaces all test (Some c.in-Some.places) = subst (ArePlaces all test) c.in-Some.is c.in_ok-places.ensures in
    c.in_ok-cells_at-in-Some.ensures ∙ ap (map (λ n. get_or all n [])) (c.as_slice.ensures.value ∙ found.1) ∙ cells_at_places test all
