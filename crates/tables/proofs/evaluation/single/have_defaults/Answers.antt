use Rattle.std.proofs.Common.{arith}
use Rattle.std.proofs.lemmas.Grind.{common_steps}
use Rattle.tables.proofs.evaluation.single.have_defaults.Goals as goal

pub loop-output-preserved : goal.loop-output-preserved
loop-output-preserved c = grind (arith, common_steps)

pub returns-then-is_none : goal.returns-then-is_none
returns-then-is_none c = grind (arith, common_steps)
