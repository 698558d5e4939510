use Rattle.std.proofs.Common.{rules}
use Rattle.regions.proofs.regions_from_cuts.has_value.Goals as goal

pub returns-in-Between : goal.returns-in-Between
returns-in-Between c = search rules
