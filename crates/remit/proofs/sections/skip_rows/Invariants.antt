use Rattle.remit.proofs.Limiting.{Skipped}
use Rattle.remit.proofs.sections.skip_rows.Given as goal

-- one row is passed over in each round
abbrev pub invariant-loop : goal.invariant-loop
invariant-loop l = Skipped l.initial.rows l.rows l.counter
