use Rattle.std.proofs.Common.{arith}
use Rattle.std.proofs.lemmas.Grind.{common_steps}
use Rattle.test_gate.proofs.tests.locks.check_ending.Goals as goal

pub has_ended-requires : goal.has_ended-requires
has_ended-requires g c = grind (arith, common_steps)
