use Rattle.remit_records.specs.Looked.{looked_up}
use Rattle.run_lists.specs.Entries.{entries_of}
use Rattle.run_lists.proofs.Walking.{FilesPosted}
use Rattle.run_lists.proofs.closing.posting.post_files.Given as goal

-- the files so far are posted
abbrev pub invariant-loop-place : goal.invariant-loop-place
invariant-loop-place l = FilesPosted l.terms.plan (looked_up l.decisions) l.terms.files l.place (entries_of l.initial.closing) (entries_of l.closing)
