use Rattle.std.proofs.lemmas.Grind.{common_steps}
use Rattle.std.proofs.Common.{arith}
use Rattle.feel_tests.proofs.value.Value.is_below.Goals as goal

pub returns-then-end_in : goal.returns-then-end_in
returns-then-end_in c = grind (arith, common_steps)

pub returns-else-end_in : goal.returns-else-end_in
returns-else-end_in c = grind (arith, common_steps)

pub returns-then-end_in-2 : goal.returns-then-end_in-2
returns-then-end_in-2 c = grind (arith, common_steps)

pub returns-else-end_in-2 : goal.returns-else-end_in-2
returns-else-end_in-2 c = grind (arith, common_steps)
