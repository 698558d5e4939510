use Rattle.std.proofs.Common.{arith}
use Rattle.std.proofs.lemmas.Grind.{common_steps}
use Rattle.plan_commands.proofs.zone_sets.with_first.Goals as goal

pub loop-side-preserved : goal.loop-side-preserved
loop-side-preserved c = grind (arith, common_steps)

pub bounds-rest-side-index : goal.bounds-rest-side-index
bounds-rest-side-index c = grind (arith, common_steps)

pub returns : goal.returns
returns c = grind (arith, common_steps)

pub loop-side-init : goal.loop-side-init
loop-side-init c = grind (arith, common_steps)
