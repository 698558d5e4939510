use Rattle.std.proofs.Common.{arith}
use Rattle.std.proofs.lemmas.Grind.{common_steps}
use Rattle.feel_tests.proofs.sequence.duplicates.Goals as goal

pub loop-value-preserved : goal.loop-value-preserved
loop-value-preserved c = grind (arith, common_steps)

pub returns : goal.returns
returns c = grind (arith, common_steps)

pub bounds-values-value-index : goal.bounds-values-value-index
bounds-values-value-index c = grind (arith, common_steps)

pub offset_bounds-values-value-index : goal.offset_bounds-values-value-index
offset_bounds-values-value-index c = grind (arith, common_steps)
