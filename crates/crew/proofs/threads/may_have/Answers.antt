use Rattle.std.proofs.Common.{rules}
use Rattle.crew.proofs.threads.may_have.Goals as goal

pub returns-then-workers-ge1 : goal.returns-then-workers-ge1
returns-then-workers-ge1 c = search rules

pub returns-else-workers-ge1 : goal.returns-else-workers-ge1
returns-else-workers-ge1 c = search rules
