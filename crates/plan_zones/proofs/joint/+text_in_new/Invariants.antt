use Rattle.std.proofs.Common.{length}
use Rattle.plan_zones.proofs.joint.+text_in_new.Given as goal

abbrev pub decreases-text_in_new : goal.decreases-text_in_new
decreases-text_in_new l = length l.renames.now
