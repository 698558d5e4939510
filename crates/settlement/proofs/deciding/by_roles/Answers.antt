use Rattle.std.proofs.Common.{rules}
use Rattle.settlement.proofs.deciding.by_roles.Goals as goal

pub returns-then-not-is_covered : goal.returns-then-not-is_covered
returns-then-not-is_covered c = search rules
