use Rattle.std.proofs.Common.{length}
use Rattle.plan_zones.proofs.zone_box.+are_same_sides.Given as goal

abbrev pub decreases-are_same_sides : goal.decreases-are_same_sides
decreases-are_same_sides l = length l.one.now
