use Rattle.std.proofs.Common.{arith}
use Rattle.std.proofs.lemmas.Grind.{common_steps}
use Rattle.test_gate.proofs.tests.rivals.rivals_over.Goals as goal

pub offer_by_two-requires-clause-caller : goal.offer_by_two-requires-clause-caller
offer_by_two-requires-clause-caller g c = grind (arith, common_steps)
