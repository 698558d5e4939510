use Rattle.std.proofs.Common.{refl}
use Rattle.plan_commands.proofs.WholePlans.{spelling_stops}
use Rattle.plan_commands.proofs.compare_report.plan_on.Goals as goal

pub returns-in-Err-clause-stopped : goal.returns-in-Err-clause-stopped
returns-in-Err-clause-stopped c = (refl, spelling_stops c.args.text.now c.in-Err.fault c.from.result c.in-Err.ensures.refused c.from.ensures)
