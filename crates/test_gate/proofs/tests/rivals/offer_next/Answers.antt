use Rattle.std.proofs.Common.{arith}
use Rattle.std.proofs.lemmas.Grind.{common_steps}
use Rattle.test_gate.proofs.tests.rivals.offer_next.Goals as goal

pub returns-in-Ok-reply : goal.returns-in-Ok-reply
returns-in-Ok-reply g c = grind (arith, common_steps)

pub returns-in-Err : goal.returns-in-Err
returns-in-Err g c = grind (arith, common_steps)

pub offer-requires-clause-due : goal.offer-requires-clause-due
offer-requires-clause-due g c = grind (arith, common_steps)
