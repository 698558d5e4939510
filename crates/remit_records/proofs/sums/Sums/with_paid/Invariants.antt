use Rattle.remit_records.proofs.Adding.{AddedTo}
use Rattle.remit_records.proofs.sums.Sums.with_paid.Given as goal

-- the amounts so far are added
abbrev pub invariant-loop-place : goal.invariant-loop-place
invariant-loop-place l = AddedTo l.decision l.fn.self.units l.units l.place
