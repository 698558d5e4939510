use Rattle.std.proofs.Common.{length}
use Rattle.remit_records.specs.Looked.{looked_up}
use Rattle.run_lists.specs.Entries.{entries_of}
use Rattle.run_lists.proofs.Walking.{PostedSoFar}
use Rattle.run_lists.proofs.closing.posting.post_rows.Given as goal

-- the rows so far are posted
abbrev pub invariant-loop-next : goal.invariant-loop-next
invariant-loop-next l = PostedSoFar l.terms.plan (looked_up l.decisions) l.provider l.initial.rows l.rows (entries_of l.initial.closing) (entries_of l.closing)

abbrev pub decreases-loop-next : goal.decreases-loop-next
decreases-loop-next l = length l.rows.records
