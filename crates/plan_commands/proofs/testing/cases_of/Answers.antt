use Rattle.std.proofs.Common.{arith}
use Rattle.std.proofs.lemmas.Grind.{common_steps}
use Rattle.plan_commands.proofs.testing.cases_of.Goals as goal

pub report_open_quote-requires-text-name : goal.report_open_quote-requires-text-name
report_open_quote-requires-text-name c = grind (arith, common_steps)

pub returns-in-None-clause-failed : goal.returns-in-None-clause-failed
returns-in-None-clause-failed c = grind (arith, common_steps)

pub read_or_report-requires-text-name : goal.read_or_report-requires-text-name
read_or_report-requires-text-name c = grind (arith, common_steps)

pub returns-in_ok-cases-in-Some-clause-named : goal.returns-in_ok-cases-in-Some-clause-named
returns-in_ok-cases-in-Some-clause-named c = grind (arith, common_steps)
