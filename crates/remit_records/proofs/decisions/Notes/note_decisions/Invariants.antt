use Rattle.std.proofs.Common.{ℕ, List, [], take}
use Rattle.journal.specs.declared.event.Event.{Event}
use Rattle.remit_records.specs.Looked.{Noted}
use Rattle.remit_records.proofs.decisions.Notes.note_decisions.Given as goal

-- the decisions of the events so far are noted
abbrev pub invariant-loop-place : goal.invariant-loop-place
invariant-loop-place l =
    (providers : ℕ) (accepting : List Event) → Noted l.journal providers accepting [] l.initial.self → Noted l.journal providers accepting (take l.place l.journal) l.self
