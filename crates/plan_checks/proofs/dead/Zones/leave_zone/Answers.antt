use Rattle.std.proofs.Common.{arith}
use Rattle.std.proofs.lemmas.Grind.{common_steps}
use Rattle.plan_checks.proofs.dead.Zones.leave_zone.Goals as goal

pub returns-then-is_empty-2-clause-tests : goal.returns-then-is_empty-2-clause-tests
returns-then-is_empty-2-clause-tests c = grind (arith, common_steps)

pub returns-then-is_empty-2-clause-rules : goal.returns-then-is_empty-2-clause-rules
returns-then-is_empty-2-clause-rules c = grind (arith, common_steps)
