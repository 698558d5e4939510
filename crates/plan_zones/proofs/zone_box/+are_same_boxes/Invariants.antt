use Rattle.std.proofs.Common.{length}
use Rattle.plan_zones.proofs.zone_box.+are_same_boxes.Given as goal

abbrev pub decreases-are_same_boxes : goal.decreases-are_same_boxes
decreases-are_same_boxes l = length l.one.now
