use Rattle.std.proofs.Common.{arith}
use Rattle.std.proofs.lemmas.Grind.{common_steps}
use Rattle.commands.proofs.asked.asked_of.Goals as goal

pub returns-clause-asked : goal.returns-clause-asked
returns-clause-asked c = grind (arith, common_steps)

pub returns-in_err-subject-clause-asked : goal.returns-in_err-subject-clause-asked
returns-in_err-subject-clause-asked c = grind (arith, common_steps)

pub returns-in_err-subject-clause-ordered : goal.returns-in_err-subject-clause-ordered
returns-in_err-subject-clause-ordered c = grind (arith, common_steps)

pub returns-clause-ordered : goal.returns-clause-ordered
returns-clause-ordered c = grind (arith, common_steps)
