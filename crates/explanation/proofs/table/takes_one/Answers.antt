use Rattle.std.proofs.Common.{rules}
use Rattle.explanation.proofs.table.takes_one.Goals as goal

pub returns-in_default : goal.returns-in_default
returns-in_default c = search rules
