use Rattle.std.proofs.Common.{arith}
use Rattle.std.proofs.lemmas.Grind.{common_steps}
use Rattle.test_gate.proofs.tests.alone.offer.Goals as goal

pub offer-requires-clause-due : goal.offer-requires-clause-due
offer-requires-clause-due g c = grind (arith, common_steps)
