use Rattle.std.proofs.Common.{arith}
use Rattle.std.proofs.lemmas.Grind.{common_steps}
use Rattle.plan_zones.proofs.joint_regions.possible_regions.Goals as goal

pub returns : goal.returns
returns c = grind (arith, common_steps)

pub loop-region-preserved : goal.loop-region-preserved
loop-region-preserved c = grind (arith, common_steps)
