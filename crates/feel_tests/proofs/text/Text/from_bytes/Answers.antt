use Rattle.std.proofs.Common.{arith}
use Rattle.std.proofs.lemmas.Grind.{common_steps}
use Rattle.feel_tests.proofs.text.Text.from_bytes.Goals as goal

pub invariant_of-result : goal.invariant_of-result
invariant_of-result c = grind (arith, common_steps)

pub returns-clause-some : goal.returns-clause-some
returns-clause-some c = grind (arith, common_steps)

pub returns-then-len-gt-TEXT_LIMIT_BYTES-clause-none : goal.returns-then-len-gt-TEXT_LIMIT_BYTES-clause-none
returns-then-len-gt-TEXT_LIMIT_BYTES-clause-none c = grind (arith, common_steps)
