use Rattle.std.proofs.Common.{arith}
use Rattle.std.proofs.lemmas.Grind.{common_steps}
use Rattle.plan_zones.proofs.joint.joint_names.Goals as goal

pub returns-clause-new : goal.returns-clause-new
returns-clause-new c = grind (arith, common_steps)

pub returns-clause-old : goal.returns-clause-old
returns-clause-old c = grind (arith, common_steps)

pub same-names : goal.same-names
same-names c = grind (arith, common_steps)

pub returns-clause-names : goal.returns-clause-names
returns-clause-names c = grind (arith, common_steps)
