use Rattle.plan_checks.specs.declared.pending.TheConstants.{ZONE_LIMIT}
use Rattle.plan_commands.proofs.Comparisons.{plans_stop}
use Rattle.plan_commands.proofs.compare_report.wide_report.Goals as goal

pub returns-in-Err-clause-stopped : goal.returns-in-Err-clause-stopped
returns-in-Err-clause-stopped c = plans_stop c.args.old.now c.args.new.now c.args.comparing.now c.in-Err.fault (c.in-Err.ensures.refused ZONE_LIMIT)
