use Rattle.std.proofs.lemmas.Grind.{common_steps}
use Rattle.std.proofs.Common.{arith}
use Rattle.fixpoint.proofs.fixed.Fixed.is_money.Goals as goal

pub returns-then-is_cents-clause-money : goal.returns-then-is_cents-clause-money
returns-then-is_cents-clause-money c = grind (arith, common_steps)

pub returns-else-is_cents-clause-money : goal.returns-else-is_cents-clause-money
returns-else-is_cents-clause-money c = grind (arith, common_steps)
