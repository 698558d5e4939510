use Rattle.std.proofs.Common.{arith}
use Rattle.std.proofs.lemmas.Grind.{common_steps}
use Rattle.test_gate.proofs.tests.locks.play_over.Goals as goal

pub play-pass-requires-clause-other : goal.play-pass-requires-clause-other
play-pass-requires-clause-other g c = grind (arith, common_steps)

pub play-pass-requires-clause-one : goal.play-pass-requires-clause-one
play-pass-requires-clause-one g c = grind (arith, common_steps)
