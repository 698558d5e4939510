use Rattle.std.proofs.Common.{◌≡◌, ◌+◌, drop, length}
use Rattle.intake_csv.specs.Records.{records_of, remaining}
use Rattle.intake_csv.specs.declared.records.Stage.TheVariants.{Reading}
use Rattle.intake_csv.proofs.Entries.{ReadBefore}
use Rattle.intake_csv.proofs.balances.read_by.Given as goal

abbrev pub invariant-loop-record : goal.invariant-loop-record
invariant-loop-record l = (l.records ≡ record { text = l.fn.text; given = l.number + 1; stage = Reading }) × ReadBefore l.version l.layout (drop 1 (records_of l.fn.text)) l.number l.balances

abbrev pub decreases-loop-record : goal.decreases-loop-record
decreases-loop-record l = length (remaining l.records)
