use Rattle.std.proofs.Common.{arith}
use Rattle.std.proofs.lemmas.Grind.{common_steps}
use Rattle.plan_commands.proofs.whole_check.report_without_zones.Goals as goal

pub wide_report-requires : goal.wide_report-requires
wide_report-requires c = grind (arith, common_steps)
