use Rattle.remit_records.specs.Looked.{looked_up}
use Rattle.run_lists.proofs.NotesWalking.{FilesNoted}
use Rattle.run_lists.proofs.notes.note_files.Given as goal

-- the files so far are noted
abbrev pub invariant-loop-place : goal.invariant-loop-place
invariant-loop-place l = FilesNoted l.terms (looked_up l.decisions) l.place l.notes.items
