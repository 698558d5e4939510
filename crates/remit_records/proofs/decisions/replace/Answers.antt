use Rattle.std.proofs.lemmas.Grind.{common_steps}
use Rattle.std.proofs.Common.{arith}
use Rattle.remit_records.proofs.decisions.replace.Goals as goal

pub loop-claim-preserved : goal.loop-claim-preserved
loop-claim-preserved c = grind (arith, common_steps)
