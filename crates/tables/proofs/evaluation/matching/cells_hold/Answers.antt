use Rattle.std.proofs.Common.{arith}
use Rattle.std.proofs.lemmas.Grind.{common_steps}
use Rattle.tables.proofs.evaluation.matching.cells_hold.Goals as goal

pub returns-then-not-cell_holds : goal.returns-then-not-cell_holds
returns-then-not-cell_holds c = grind (arith, common_steps)

pub loop-place-preserved : goal.loop-place-preserved
loop-place-preserved c = grind (arith, common_steps)

pub returns-in-None : goal.returns-in-None
returns-in-None c = grind (arith, common_steps)

pub returns : goal.returns
returns c = grind (arith, common_steps)
