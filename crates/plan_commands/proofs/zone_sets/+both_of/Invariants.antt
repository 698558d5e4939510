use Rattle.std.proofs.Common.{length}
use Rattle.plan_commands.proofs.zone_sets.+both_of.Given as goal

abbrev pub decreases-both_of : goal.decreases-both_of
decreases-both_of l = length l.one.now
