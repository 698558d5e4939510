use Rattle.std.proofs.Common.{rules}
use Rattle.regions.proofs.region.is_in.Goals as goal

pub returns-then-is_less : goal.returns-then-is_less
returns-then-is_less c = search rules
