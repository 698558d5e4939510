use Rattle.check_report.proofs.ReportLines.{plan_more}
use Rattle.check_report.proofs.check.report.check_report.Goals as goal

pub loop-place-preserved : goal.loop-place-preserved
loop-place-preserved c =
    plan_more c.args.findings c.args.plan.now c.loop-place.place c.loop-place.reported c.push.new.self c.in_ok-table.table c.loop-place.invariant (rw c.at.ensures at c.in_ok-table.ensures) c.in_ok-push.ensures.tables c.in_ok-push.ensures.gaps
    c.in_ok-push.ensures.overlaps
