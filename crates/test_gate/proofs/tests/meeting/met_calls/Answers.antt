use Rattle.std.proofs.Common.{arith}
use Rattle.std.proofs.lemmas.Grind.{common_steps}
use Rattle.test_gate.proofs.tests.meeting.met_calls.Goals as goal

pub play-passes-requires-clause-other : goal.play-passes-requires-clause-other
play-passes-requires-clause-other g c = grind (arith, common_steps)

pub play-passes-requires-clause-one : goal.play-passes-requires-clause-one
play-passes-requires-clause-one g c = grind (arith, common_steps)

pub play-one-requires-2-clause-other : goal.play-one-requires-2-clause-other
play-one-requires-2-clause-other g c = grind (arith, common_steps)

pub play-one-requires-2-clause-one : goal.play-one-requires-2-clause-one
play-one-requires-2-clause-one g c = grind (arith, common_steps)

pub play-one-requires-clause-other : goal.play-one-requires-clause-other
play-one-requires-clause-other g c = grind (arith, common_steps)

pub play-one-requires-clause-one : goal.play-one-requires-clause-one
play-one-requires-clause-one g c = grind (arith, common_steps)
