use Rattle.std.proofs.Common.{arith}
use Rattle.std.proofs.lemmas.Grind.{common_steps}
use Rattle.test_gate.proofs.lock_tests.locks.spin_lock_gives_the_value_left.Goals as goal

pub leave-pass-requires-clause-grown : goal.leave-pass-requires-clause-grown
leave-pass-requires-clause-grown c = grind (arith, common_steps)
