use Rattle.std.proofs.Common.{arith}
use Rattle.std.proofs.lemmas.Grind.{common_steps}
use Rattle.commands.proofs.check.check.Goals as goal

pub returns-clause-done : goal.returns-clause-done
returns-clause-done c = grind (arith, common_steps)

pub returns-clause-refused : goal.returns-clause-refused
returns-clause-refused c = grind (arith, common_steps)
