use Rattle.std.proofs.lemmas.Grind.{common_steps}
use Rattle.std.proofs.Common.{arith}
use Rattle.feel_tests.proofs.cell.one_passes.Goals as goal

pub loop-test-preserved : goal.loop-test-preserved
loop-test-preserved c = grind (arith, common_steps)

pub returns-then-passes : goal.returns-then-passes
returns-then-passes c = grind (arith, common_steps)

pub returns : goal.returns
returns c = grind (arith, common_steps)
