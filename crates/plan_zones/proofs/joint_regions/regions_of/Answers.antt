use Rattle.std.proofs.Common.{arith}
use Rattle.std.proofs.lemmas.Grind.{common_steps}
use Rattle.plan_zones.proofs.joint_regions.regions_of.Goals as goal

pub returns-then-is_joint_read : goal.returns-then-is_joint_read
returns-then-is_joint_read c = grind (arith, common_steps)
