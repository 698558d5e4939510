use Rattle.std.proofs.Common.{arith}
use Rattle.std.proofs.lemmas.Grind.{common_steps}
use Rattle.plan_rows.proofs.filing.claim_by.Goals as goal

pub overflow_add-member : goal.overflow_add-member
overflow_add-member c = grind (arith, common_steps)

pub returns-in-Err-amount_at-clause-unfit : goal.returns-in-Err-amount_at-clause-unfit
returns-in-Err-amount_at-clause-unfit c = grind (arith, common_steps)

pub returns-clause-claim : goal.returns-clause-claim
returns-clause-claim c = grind (arith, common_steps)

pub returns-in-Err-2-clause-unfit : goal.returns-in-Err-2-clause-unfit
returns-in-Err-2-clause-unfit c = grind (arith, common_steps)

pub returns-in-Err-clause-unfit : goal.returns-in-Err-clause-unfit
returns-in-Err-clause-unfit c = grind (arith, common_steps)

pub same-fields : goal.same-fields
same-fields c = grind (arith, common_steps)
