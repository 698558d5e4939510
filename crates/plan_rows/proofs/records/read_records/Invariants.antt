use Rattle.std.proofs.Common.{◌≡◌, drop, length, map, take}
use Rattle.csv.specs.Records.{fields_of}
use Rattle.intake_csv.specs.Reader.{HasLeft}
use Rattle.intake_csv.specs.Records.{records_of}
use Rattle.plan_rows.proofs.records.read_records.Given as goal

-- the reader has the records after those so far
abbrev pub invariant-loop-record : goal.invariant-loop-record
invariant-loop-record l =
    HasLeft l.reader (drop (length l.records.items) (records_of l.fn.text))
    × (map fields_of l.records.items ≡ take (length l.records.items) (records_of l.fn.text))

abbrev pub decreases-loop-record : goal.decreases-loop-record
decreases-loop-record l = length (drop (length l.records.items) (records_of l.fn.text))
