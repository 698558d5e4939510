use Rattle.std.proofs.Common.{arith}
use Rattle.std.proofs.lemmas.Grind.{common_steps}
use Rattle.tables.proofs.plan.for_member.Goals as goal

pub returns-in_ok-push_number-5 : goal.returns-in_ok-push_number-5
returns-in_ok-push_number-5 c = grind (arith, common_steps)

pub returns-else-families : goal.returns-else-families
returns-else-families c = grind (arith, common_steps)
