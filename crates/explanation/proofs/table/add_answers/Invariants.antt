use Rattle.explanation.proofs.Listing.{AreListed}
use Rattle.explanation.proofs.table.add_answers.Given as goal

-- the answers so far are listed
abbrev pub invariant-loop-place : goal.invariant-loop-place
invariant-loop-place l = AreListed l.step l.initial.facts l.outputs l.answers l.facts l.place
