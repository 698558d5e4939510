use Rattle.std.proofs.Common.{rules}
use Rattle.remit_records.proofs.counts.RecordStatus.of_outcome.Goals as goal

pub returns-in_default : goal.returns-in_default
returns-in_default c = search rules
