use Rattle.std.proofs.Common.{arith}
use Rattle.std.proofs.lemmas.Grind.{common_steps}
use Rattle.tables.proofs.evaluation.single.rules_agree.Goals as goal

pub loop-other-preserved : goal.loop-other-preserved
loop-other-preserved c = grind (arith, common_steps)

pub returns-then-not-agree : goal.returns-then-not-agree
returns-then-not-agree c = grind (arith, common_steps)
