use Rattle.std.proofs.Common.{ℕ, [], take}
use Rattle.remit_records.specs.Looked.{Noted}
use Rattle.remit_records.proofs.decisions.Notes.note_accepts.Given as goal

-- the claims that the events so far accept are noted
abbrev pub invariant-loop-place : goal.invariant-loop-place
invariant-loop-place l = (providers : ℕ) → Noted l.journal providers [] [] l.initial.self → Noted l.journal providers (take l.place l.journal) [] l.self
