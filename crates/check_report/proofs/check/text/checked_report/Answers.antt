use Rattle.check_report.proofs.ReportLines.{text_reported}
use Rattle.check_report.proofs.check.text.checked_report.Goals as goal

pub returns-clause-text : goal.returns-clause-text
returns-clause-text c = text_reported c.args.findings c.args.plan.now c.in_ok-reported.reported c.in_ok-reported.ensures
