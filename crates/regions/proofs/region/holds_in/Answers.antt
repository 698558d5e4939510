use Rattle.std.proofs.Common.{rules}
use Rattle.regions.proofs.region.holds_in.Goals as goal

pub returns-in-Between : goal.returns-in-Between
returns-in-Between c = search rules
