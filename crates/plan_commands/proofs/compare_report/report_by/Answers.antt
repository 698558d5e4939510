use Rattle.std.proofs.Common.{arith}
use Rattle.std.proofs.lemmas.Grind.{common_steps}
use Rattle.plan_commands.proofs.compare_report.report_by.Goals as goal

pub returns-in-Err-TooWide-clause-compared : goal.returns-in-Err-TooWide-clause-compared
returns-in-Err-TooWide-clause-compared c = grind (arith, common_steps)

pub returns-in-Err : goal.returns-in-Err
returns-in-Err c = grind (arith, common_steps)

pub returns-in-Ok-clause-stopped : goal.returns-in-Ok-clause-stopped
returns-in-Ok-clause-stopped c = grind (arith, common_steps)
