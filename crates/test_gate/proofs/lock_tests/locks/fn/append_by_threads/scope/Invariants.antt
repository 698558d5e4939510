use Rattle.test_gate.proofs.lock_tests.locks.fn.append_by_threads.scope.Given as goal

abbrev pub invariant-start : goal.invariant-start
invariant-start g l = g.S.Section.has_pass l.lock.now l.mine
