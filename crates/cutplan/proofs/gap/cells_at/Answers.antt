use Rattle.std.proofs.Common.{◌++◌, [], ap, get_or, ◌∙◌, arith}
use Rattle.std.proofs.lemmas.Grind.{common_steps}
use Rattle.cutplan.specs.CompiledColumns.{regions_kept}
use Rattle.cutplan.specs.Check.{cells}
use Rattle.cutplan.proofs.Compiling.{more_mapped}
use Rattle.cutplan.proofs.Places.{got_alike}
use Rattle.cutplan.proofs.gap.cells_at.Goals as goal

pub push_regions-requires : goal.push_regions-requires
push_regions-requires c = record { narrow = c.requires.narrow; within = c.requires.within c.loop-place.place-index 0 c.loop-place-test.true }

pub loop-place-preserved : goal.loop-place-preserved
loop-place-preserved c =
    let all = cells (regions_kept c.args.columns.now) in
    let places = c.args.places.now in
    let place = get_or places c.loop-place.place-index 0 in
    more_mapped (λ n. get_or all n []) places c.loop-place.found.items c.push.new.self.items c.loop-place.place-index place c.push_regions.new.cell c.loop-place-test.true
    (got_alike places c.loop-place.place-index 0 place c.loop-place-test.true) c.loop-place.invariant (c.in_ok-push_regions.ensures ∙ ap (λ front. front ++ get_or all place []) c.new-cell.ensures) c.in_ok-push.ensures.items

pub returns : goal.returns
returns c = grind (arith, common_steps)
