use Rattle.plan_commands.proofs.WholePlans.{spelling_stops}
use Rattle.plan_commands.proofs.whole_check.report_of.Goals as goal

-- src/whole_check.rt:165:1
pub returns-in-Err-clause-stopped : goal.returns-in-Err-clause-stopped
returns-in-Err-clause-stopped c = spelling_stops c.args.text.now c.in-Err.fault c.from.result c.in-Err.ensures.refused c.from.ensures
