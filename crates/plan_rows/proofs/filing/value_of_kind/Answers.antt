use Rattle.std.proofs.Common.{arith}
use Rattle.std.proofs.lemmas.Grind.{common_steps}
use Rattle.plan_rows.proofs.filing.value_of_kind.Goals as goal

pub returns-else-has_kind-clause-none : goal.returns-else-has_kind-clause-none
returns-else-has_kind-clause-none c = grind (arith, common_steps)

pub returns-in_err-value-clause-value : goal.returns-in_err-value-clause-value
returns-in_err-value-clause-value c = grind (arith, common_steps)

pub returns-then-has_kind-clause-kind : goal.returns-then-has_kind-clause-kind
returns-then-has_kind-clause-kind c = grind (arith, common_steps)

pub returns-in_err-value-clause-none : goal.returns-in_err-value-clause-none
returns-in_err-value-clause-none c = grind (arith, common_steps)

pub returns-in_err-value-clause-kind : goal.returns-in_err-value-clause-kind
returns-in_err-value-clause-kind c = grind (arith, common_steps)
