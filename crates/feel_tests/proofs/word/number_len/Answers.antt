use Rattle.std.proofs.Common.{arith}
use Rattle.std.proofs.lemmas.Grind.{common_steps}
use Rattle.feel_tests.proofs.word.number_len.Goals as goal

pub returns-then-len-gt0-clause-value : goal.returns-then-len-gt0-clause-value
returns-then-len-gt0-clause-value c = grind (arith, common_steps)

pub returns-else-len-gt0-clause-value : goal.returns-else-len-gt0-clause-value
returns-else-len-gt0-clause-value c = grind (arith, common_steps)

pub bounds-bytes-0 : goal.bounds-bytes-0
bounds-bytes-0 c = grind (arith, common_steps)

pub slice_bounds-unsigned-count : goal.slice_bounds-unsigned-count
slice_bounds-unsigned-count c = grind (arith, common_steps)

pub slice_bounds-unsigned-start : goal.slice_bounds-unsigned-start
slice_bounds-unsigned-start c = grind (arith, common_steps)
