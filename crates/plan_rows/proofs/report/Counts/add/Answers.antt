use Rattle.std.proofs.Common.{arith}
use Rattle.std.proofs.lemmas.Grind.{common_steps}
use Rattle.plan_rows.proofs.report.Counts.add.Goals as goal

pub overflow_add-self-in-Refused : goal.overflow_add-self-in-Refused
overflow_add-self-in-Refused c = grind (arith, common_steps)

pub overflow_add-self-in-Wrong : goal.overflow_add-self-in-Wrong
overflow_add-self-in-Wrong c = grind (arith, common_steps)

pub returns-in-Refused : goal.returns-in-Refused
returns-in-Refused c = grind (arith, common_steps)

pub returns-in-Wrong : goal.returns-in-Wrong
returns-in-Wrong c = grind (arith, common_steps)

pub returns-in-Right : goal.returns-in-Right
returns-in-Right c = grind (arith, common_steps)

pub overflow_add-self-in-Right : goal.overflow_add-self-in-Right
overflow_add-self-in-Right c = grind (arith, common_steps)
