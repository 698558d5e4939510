use Rattle.std.proofs.Common.{arith}
use Rattle.std.proofs.lemmas.Grind.{common_steps}
use Rattle.explanation.proofs.asked.explanation_over.Goals as goal

pub returns-in-Family : goal.returns-in-Family
returns-in-Family c = grind (arith, common_steps)

pub returns-in-Record : goal.returns-in-Record
returns-in-Record c = grind (arith, common_steps)
