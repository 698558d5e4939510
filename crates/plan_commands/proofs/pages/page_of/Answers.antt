use Rattle.plan_commands.proofs.PageStatuses.{spelling_refuses}
use Rattle.plan_commands.proofs.pages.page_of.Goals as goal

pub returns-in-Err-clause-refused : goal.returns-in-Err-clause-refused
returns-in-Err-clause-refused c = spelling_refuses c.args.about.now.plan.now c.in-Err.fault c.from.result c.in-Err.ensures.refused c.from.ensures
