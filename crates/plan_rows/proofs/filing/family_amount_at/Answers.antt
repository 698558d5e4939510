use Rattle.std.proofs.Common.{arith}
use Rattle.std.proofs.lemmas.Grind.{common_steps}
use Rattle.plan_rows.proofs.filing.family_amount_at.Goals as goal

pub returns-then-keeps_families-clause-amount : goal.returns-then-keeps_families-clause-amount
returns-then-keeps_families-clause-amount c = grind (arith, common_steps)

pub returns-else-keeps_families-clause-amount : goal.returns-else-keeps_families-clause-amount
returns-else-keeps_families-clause-amount c = grind (arith, common_steps)
