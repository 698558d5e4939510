use Rattle.std.proofs.Common.{arith}
use Rattle.std.proofs.lemmas.Grind.{common_steps}
use Rattle.plan_rows.proofs.rows_stop.put_rows_fault.Goals as goal

pub returns-in-Repeated-clause-text : goal.returns-in-Repeated-clause-text
returns-in-Repeated-clause-text c = grind (arith, common_steps)

pub returns-in-TooLarge-clause-short : goal.returns-in-TooLarge-clause-short
returns-in-TooLarge-clause-short c = grind (arith, common_steps)

pub returns-in-Taken-clause-text : goal.returns-in-Taken-clause-text
returns-in-Taken-clause-text c = grind (arith, common_steps)

pub returns-in-NoHeader-clause-short : goal.returns-in-NoHeader-clause-short
returns-in-NoHeader-clause-short c = grind (arith, common_steps)
