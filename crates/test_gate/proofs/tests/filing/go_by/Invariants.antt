use Rattle.test_gate.proofs.Filing.{IsAfter}
use Rattle.test_gate.proofs.tests.filing.go_by.Given as goal

abbrev pub invariant-loop : goal.invariant-loop
invariant-loop g l = IsAfter l.terms l.provider l.counter l.rows
