use Rattle.std.proofs.Common.{arith}
use Rattle.std.proofs.lemmas.Grind.{common_steps}
use Rattle.remit_records.proofs.counts.FileCounts.add.Goals as goal

pub returns-in-Bad : goal.returns-in-Bad
returns-in-Bad c = grind (arith, common_steps)
