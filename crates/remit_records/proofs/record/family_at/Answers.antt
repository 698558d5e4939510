use Rattle.std.proofs.Common.{rules}
use Rattle.remit_records.proofs.record.family_at.Goals as goal

pub returns-in-Some : goal.returns-in-Some
returns-in-Some c = search rules
