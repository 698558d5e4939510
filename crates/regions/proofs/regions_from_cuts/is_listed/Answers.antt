use Rattle.std.proofs.Common.{rules}
use Rattle.regions.proofs.regions_from_cuts.is_listed.Goals as goal

pub returns-then-has_value : goal.returns-then-has_value
returns-then-has_value c = search rules

pub returns-else-has_value : goal.returns-else-has_value
returns-else-has_value c = search rules
