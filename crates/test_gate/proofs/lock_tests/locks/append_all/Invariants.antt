use Rattle.test_gate.proofs.lock_tests.locks.append_all.Given as goal

abbrev pub invariant-loop-number : goal.invariant-loop-number
invariant-loop-number g l = g.S.Section.has_pass l.lock l.pass
