use Rattle.std.proofs.Common.{◌≤◌, ◌-◌, drop}
use Rattle.intake_csv.specs.Reader.{HasLeft}
use Rattle.intake_csv.specs.Records.{records_of}
use Rattle.explanation.proofs.file_record.record_at.Given as goal

-- the reader is past the records before this one, without those that are still to be passed
abbrev pub invariant-records : goal.invariant-records
invariant-records l = (l.earlier ≤ l.fn.number) × HasLeft l.reader (drop (l.fn.number - l.earlier) (records_of l.text))

-- the number of records that are still to be passed
abbrev pub decreases-records : goal.decreases-records
decreases-records l = l.earlier
