use Rattle.std.proofs.Common.{arith}
use Rattle.std.proofs.lemmas.Grind.{common_steps}
use Rattle.feel_tests.proofs.reading.blank_end.Goals as goal

pub returns-else-is_blank-clause-refused : goal.returns-else-is_blank-clause-refused
returns-else-is_blank-clause-refused c = grind (arith, common_steps)
