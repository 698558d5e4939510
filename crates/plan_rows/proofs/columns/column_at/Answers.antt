use Rattle.std.proofs.Common.{arith}
use Rattle.std.proofs.lemmas.Grind.{common_steps}
use Rattle.plan_rows.proofs.columns.column_at.Goals as goal

pub returns-in_default-clause-unknown : goal.returns-in_default-clause-unknown
returns-in_default-clause-unknown c = grind (arith, common_steps)

pub returns-clause-column : goal.returns-clause-column
returns-clause-column c = grind (arith, common_steps)

pub returns-in_err-field-clause-unknown : goal.returns-in_err-field-clause-unknown
returns-in_err-field-clause-unknown c = grind (arith, common_steps)

pub returns-in_err-used-clause-column : goal.returns-in_err-used-clause-column
returns-in_err-used-clause-column c = grind (arith, common_steps)

pub returns-in_err-used-clause-unknown : goal.returns-in_err-used-clause-unknown
returns-in_err-used-clause-unknown c = grind (arith, common_steps)
