use Rattle.check_report.specs.CheckReport.{IsReportedOfFirst}
use Rattle.check_report.proofs.check.report.check_report.Given as goal

abbrev pub invariant-loop-place : goal.invariant-loop-place
invariant-loop-place l = IsReportedOfFirst l.findings l.plan l.place l.reported
