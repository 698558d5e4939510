use Rattle.std.proofs.Common.{arith}
use Rattle.std.proofs.lemmas.Grind.{elements}
use Rattle.plan_zones.proofs.zone_box.group_with.Goals as goal

pub returns-then-are_same_boxes : goal.returns-then-are_same_boxes
returns-then-are_same_boxes c = grind (arith, elements)
