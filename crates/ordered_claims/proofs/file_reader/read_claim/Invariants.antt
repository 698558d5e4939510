use Rattle.std.proofs.Common.{length}
use Rattle.ordered_claims.specs.ReadAhead.{SkipsTo}
use Rattle.ordered_claims.proofs.file_reader.read_claim.Given as goal

-- the records so far are refused ones
abbrev pub invariant-records : goal.invariant-records
invariant-records l = SkipsTo l.initial.rows l.rows

-- the number of records that are left
abbrev pub decreases-records : goal.decreases-records
decreases-records l = length l.rows.records
