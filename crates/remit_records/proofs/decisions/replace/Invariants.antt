use Rattle.remit_records.proofs.Noting.{ReplacedTo}
use Rattle.remit_records.proofs.decisions.replace.Given as goal

-- the positions so far are replaced
abbrev pub invariant-loop-claim : goal.invariant-loop-claim
invariant-loop-claim l = ReplacedTo l.decided l.end l.initial.positions.items l.positions.items l.claim
