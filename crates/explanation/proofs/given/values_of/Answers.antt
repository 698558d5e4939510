use Rattle.std.proofs.Common.{arith}
use Rattle.std.proofs.lemmas.Grind.{common_steps}
use Rattle.explanation.proofs.given.values_of.Goals as goal

pub loop-value-preserved : goal.loop-value-preserved
loop-value-preserved c = grind (arith, common_steps)

pub returns : goal.returns
returns c = grind (arith, common_steps)

pub bounds-value-items-value-index : goal.bounds-value-items-value-index
bounds-value-items-value-index c = grind (arith, common_steps)

pub offset_bounds-value-items-value-index : goal.offset_bounds-value-items-value-index
offset_bounds-value-items-value-index c = grind (arith, common_steps)
