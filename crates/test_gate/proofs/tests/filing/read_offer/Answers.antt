use Rattle.std.proofs.Common.{arith}
use Rattle.std.proofs.lemmas.Grind.{common_steps}
use Rattle.test_gate.proofs.tests.filing.read_offer.Goals as goal

pub offer_after-requires-clause-reader : goal.offer_after-requires-clause-reader
offer_after-requires-clause-reader g c = grind (arith, common_steps)
