use Rattle.std.proofs.Common.{arith}
use Rattle.std.proofs.lemmas.Grind.{common_steps}
use Rattle.tables.proofs.evaluation.single.any.Goals as goal

pub returns-in_ok-ones-in-len1-up : goal.returns-in_ok-ones-in-len1-up
returns-in_ok-ones-in-len1-up c = grind (arith, common_steps)

pub returns-else-rules_agree : goal.returns-else-rules_agree
returns-else-rules_agree c = grind (arith, common_steps)
