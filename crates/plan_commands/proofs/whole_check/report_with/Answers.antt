use Rattle.plan_commands.proofs.WholePlans.{judged_as}
use Rattle.plan_commands.proofs.whole_check.report_with.Goals as goal

pub returns-clause-judged : goal.returns-clause-judged
returns-clause-judged c = judged_as c.args.plan.now c.args.found.now c.args.dead.now _ c.is_clean-is_clean.ensures c.requires.exact c.requires.known c.requires.held c.requires.rules c.requires.tests
