use Rattle.std.proofs.Common.{arith}
use Rattle.std.proofs.lemmas.Grind.{common_steps}
use Rattle.commands.proofs.check.checked_status.Goals as goal

pub returns-else-is_whole-clause-done : goal.returns-else-is_whole-clause-done
returns-else-is_whole-clause-done c = grind (arith, common_steps)

pub returns-then-is_whole-clause-refused : goal.returns-then-is_whole-clause-refused
returns-then-is_whole-clause-refused c = grind (arith, common_steps)

pub returns-else-is_whole-clause-refused : goal.returns-else-is_whole-clause-refused
returns-else-is_whole-clause-refused c = grind (arith, common_steps)

pub returns-then-is_whole-clause-done : goal.returns-then-is_whole-clause-done
returns-then-is_whole-clause-done c = grind (arith, common_steps)
