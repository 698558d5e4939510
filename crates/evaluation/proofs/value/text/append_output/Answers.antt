use Rattle.std.proofs.Common.{arith, rules}
use Rattle.std.proofs.lemmas.Grind.{common_steps}
use Rattle.evaluation.proofs.value.text.append_output.Goals as goal

pub returns-in_ok-push : goal.returns-in_ok-push
returns-in_ok-push c = grind (arith, common_steps)

pub returns-in_default : goal.returns-in_default
returns-in_default c = search rules
