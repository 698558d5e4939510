use Rattle.std.proofs.Common.{arith}
use Rattle.std.proofs.lemmas.Grind.{common_steps}
use Rattle.plan_zones.proofs.joint_regions.add_cells.Goals as goal

pub returns : goal.returns
returns c = grind (arith, common_steps)

pub loop-narrowing-preserved : goal.loop-narrowing-preserved
loop-narrowing-preserved c = grind (arith, common_steps)
