use Rattle.std.proofs.Common.{arith}
use Rattle.std.proofs.lemmas.Grind.{common_steps}
use Rattle.test_gate.proofs.tests.rivals.offer_by_two.Goals as goal

pub scoped-requires : goal.scoped-requires
scoped-requires g c = grind (arith, common_steps)
