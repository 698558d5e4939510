use Rattle.std.proofs.Common.{arith}
use Rattle.std.proofs.lemmas.Grind.{common_steps}
use Rattle.evaluation.proofs.value.text.append_answer.Goals as goal

pub returns-in_ok-push-in-Many-2 : goal.returns-in_ok-push-in-Many-2
returns-in_ok-push-in-Many-2 c = grind (arith, common_steps)
