use Rattle.std.proofs.Common.{length}
use Rattle.cutplan.proofs.gap.+push_regions.Given as goal

abbrev pub decreases-push_regions : goal.decreases-push_regions
decreases-push_regions l = length l.columns.now
