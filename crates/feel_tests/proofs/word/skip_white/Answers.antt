use Rattle.std.proofs.Common.{arith}
use Rattle.std.proofs.lemmas.Grind.{common_steps}
use Rattle.feel_tests.proofs.word.skip_white.Goals as goal

pub loop-rest-preserved : goal.loop-rest-preserved
loop-rest-preserved c = grind (arith, common_steps)

pub returns : goal.returns
returns c = grind (arith, common_steps)

pub loop-rest-smaller : goal.loop-rest-smaller
loop-rest-smaller c = grind (arith, common_steps)

pub bounds-rest-0 : goal.bounds-rest-0
bounds-rest-0 c = grind (arith, common_steps)

pub slice_bounds-tail-count : goal.slice_bounds-tail-count
slice_bounds-tail-count c = grind (arith, common_steps)

pub slice_bounds-tail-start : goal.slice_bounds-tail-start
slice_bounds-tail-start c = grind (arith, common_steps)
