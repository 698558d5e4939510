use Rattle.std.proofs.Common.{arith}
use Rattle.std.proofs.lemmas.Grind.{common_steps}
use Rattle.plan_rows.proofs.HeaderColumns.{are_of_names}
use Rattle.plan_rows.proofs.report.report_of_records.Goals as goal

pub judge_rows-report-requires-clause-named : goal.judge_rows-report-requires-clause-named
judge_rows-report-requires-clause-named c = rw c.as_slice.ensures.value (are_of_names _ _ _ c.in_ok-columns.ensures.columns.each)

pub returns-clause-report : goal.returns-clause-report
returns-clause-report c = grind (arith, common_steps)

pub judge_rows-report-requires-clause-apart : goal.judge_rows-report-requires-clause-apart
judge_rows-report-requires-clause-apart c = grind (arith, common_steps)

pub returns-in_default-clause-refused : goal.returns-in_default-clause-refused
returns-in_default-clause-refused c = grind (arith, common_steps)
