use Rattle.std.proofs.Common.{length}
use Rattle.remit_records.specs.Looked.{looked_up}
use Rattle.run_lists.proofs.NotesWalking.{NotedSoFar}
use Rattle.run_lists.proofs.notes.note_rows.Given as goal

-- the rows so far are noted
abbrev pub invariant-loop-next : goal.invariant-loop-next
invariant-loop-next l = NotedSoFar (looked_up l.decisions) l.provider l.initial.rows l.rows l.initial.notes.items l.notes.items

abbrev pub decreases-loop-next : goal.decreases-loop-next
decreases-loop-next l = length l.rows.records
