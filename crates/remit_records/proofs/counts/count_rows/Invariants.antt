use Rattle.std.proofs.Common.{length}
use Rattle.remit_records.specs.Looked.{looked_up}
use Rattle.remit_records.proofs.Counting.{CountedSoFar}
use Rattle.remit_records.proofs.counts.count_rows.Given as goal

-- the rows so far are counted
abbrev pub invariant-loop-next : goal.invariant-loop-next
invariant-loop-next l = CountedSoFar (looked_up l.decisions) l.provider l.initial.rows l.rows l.file.counts

abbrev pub decreases-loop-next : goal.decreases-loop-next
decreases-loop-next l = length l.rows.records
