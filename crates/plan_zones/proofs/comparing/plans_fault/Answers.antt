use Rattle.std.proofs.Common.{arith}
use Rattle.std.proofs.lemmas.Grind.{common_steps}
use Rattle.plan_zones.proofs.comparing.plans_fault.Goals as goal

pub returns-in-Some-role_fault-clause-some : goal.returns-in-Some-role_fault-clause-some
returns-in-Some-role_fault-clause-some c = grind (arith, common_steps)

pub returns-in-Some-clause-some : goal.returns-in-Some-clause-some
returns-in-Some-clause-some c = grind (arith, common_steps)
