use Rattle.std.proofs.Common.{arith}
use Rattle.std.proofs.lemmas.Grind.{common_steps}
use Rattle.remit_records.proofs.record.push_remarks.Goals as goal

pub returns : goal.returns
returns c = grind (arith, common_steps)
