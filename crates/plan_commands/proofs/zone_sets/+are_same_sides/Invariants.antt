use Rattle.std.proofs.Common.{length}
use Rattle.plan_commands.proofs.zone_sets.+are_same_sides.Given as goal

abbrev pub decreases-are_same_sides : goal.decreases-are_same_sides
decreases-are_same_sides l = length l.one.now
