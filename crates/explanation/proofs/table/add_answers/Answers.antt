use Rattle.std.proofs.Common.{◌≡◌, None, slice_get, arith}
use Rattle.std.proofs.lemmas.Grind.{common_steps, elements}
use Rattle.explanation.proofs.Listing.{listed_short}
use Rattle.explanation.proofs.table.add_answers.Goals as goal

pub returns-in_default : goal.returns-in_default
returns-in_default c =
    let none : slice_get c.args.answers.now c.loop-place.place ≡ None = grind (arith, elements) in
    listed_short c.args.step.now c.args.facts.now c.args.outputs.now c.args.answers.now c.loop-place.facts c.loop-place.place c.loop-place.invariant none

pub loop-place-preserved : goal.loop-place-preserved
loop-place-preserved c = grind (arith, common_steps)

pub returns : goal.returns
returns c = grind (arith, common_steps)
