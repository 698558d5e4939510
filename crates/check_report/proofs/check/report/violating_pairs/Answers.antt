use Rattle.std.proofs.Common.{arith}
use Rattle.std.proofs.lemmas.Grind.{common_steps}
use Rattle.check_report.proofs.check.report.violating_pairs.Goals as goal

pub loop-rules-preserved : goal.loop-rules-preserved
loop-rules-preserved c = grind (arith, common_steps)
