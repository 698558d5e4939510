use Rattle.std.proofs.Common.{arith}
use Rattle.std.proofs.lemmas.Grind.{common_steps}
use Rattle.plan_rows.proofs.stop.put_cases_fault.Goals as goal

pub returns-in-Unknown-clause-text : goal.returns-in-Unknown-clause-text
returns-in-Unknown-clause-text c = grind (arith, common_steps)

pub returns-in-Repeated-clause-text : goal.returns-in-Repeated-clause-text
returns-in-Repeated-clause-text c = grind (arith, common_steps)

pub returns-in-TooLarge-clause-short : goal.returns-in-TooLarge-clause-short
returns-in-TooLarge-clause-short c = grind (arith, common_steps)

pub returns-in-NoHeader-clause-short : goal.returns-in-NoHeader-clause-short
returns-in-NoHeader-clause-short c = grind (arith, common_steps)
