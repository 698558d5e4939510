use Rattle.std.proofs.Common.{◌<◌, length, subst}
use Rattle.fixpoint.specs.BufferedOut.{greatest_count}
use Rattle.check_report.specs.CheckReport.{reported_text}
use Rattle.check_report.proofs.Piecewise.{on_less}
use Rattle.check_report.proofs.check.text.is_counted.Goals as goal

pub returns-in-Ok : goal.returns-in-Ok
returns-in-Ok c =
    let text = reported_text c.args.reported.now in
    on_less c.in-Ok.count greatest_count (length text < greatest_count) (λ less. subst (λ n. n < greatest_count) c.in-Ok.ensures.1 less)
