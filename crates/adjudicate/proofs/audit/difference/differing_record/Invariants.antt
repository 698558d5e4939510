use Rattle.std.proofs.Common.{◌-◌, length}
use Rattle.adjudicate.proofs.SharedRecords.{HasShared}
use Rattle.adjudicate.proofs.audit.difference.differing_record.Given as goal

abbrev pub invariant-records : goal.invariant-records
invariant-records l = HasShared l.given l.due l.number l.start

-- the bytes that are left
abbrev pub decreases-records : goal.decreases-records
decreases-records l = length l.given - l.start
