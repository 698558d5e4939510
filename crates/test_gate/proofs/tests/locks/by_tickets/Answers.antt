use Rattle.std.proofs.Common.{arith}
use Rattle.std.proofs.lemmas.Grind.{common_steps}
use Rattle.test_gate.proofs.tests.locks.by_tickets.Goals as goal

pub returns-in-Err-clause-terms : goal.returns-in-Err-clause-terms
returns-in-Err-clause-terms g c = grind (arith, common_steps)

pub returns-in-Ok-clause-terms : goal.returns-in-Ok-clause-terms
returns-in-Ok-clause-terms g c = grind (arith, common_steps)
