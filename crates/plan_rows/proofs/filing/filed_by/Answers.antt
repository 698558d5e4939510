use Rattle.std.proofs.Common.{arith}
use Rattle.std.proofs.lemmas.Grind.{common_steps}
use Rattle.plan_rows.proofs.filing.filed_by.Goals as goal

pub returns-in-Ok-2-clause-filed : goal.returns-in-Ok-2-clause-filed
returns-in-Ok-2-clause-filed c = grind (arith, common_steps)

pub returns-in-Err-2-clause-unfit : goal.returns-in-Err-2-clause-unfit
returns-in-Err-2-clause-unfit c = grind (arith, common_steps)
