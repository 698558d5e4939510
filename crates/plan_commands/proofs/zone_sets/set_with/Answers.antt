use Rattle.std.proofs.Common.{arith}
use Rattle.std.proofs.lemmas.Grind.{common_steps}
use Rattle.plan_commands.proofs.zone_sets.set_with.Goals as goal

pub loop-side-preserved : goal.loop-side-preserved
loop-side-preserved c = grind (arith, common_steps)

pub returns : goal.returns
returns c = grind (arith, common_steps)

pub bounds-sides-side-index : goal.bounds-sides-side-index
bounds-sides-side-index c = grind (arith, common_steps)
