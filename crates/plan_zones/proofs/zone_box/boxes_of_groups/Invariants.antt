use Rattle.std.proofs.Common.{◌≡◌, take}
use Rattle.std.specs.List.{flat_map}
use Rattle.plan_zones.specs.Boxes.{group_boxes}
use Rattle.plan_zones.proofs.zone_box.boxes_of_groups.Given as goal

abbrev pub invariant-loop-group : goal.invariant-loop-group
invariant-loop-group l = l.found ≡ flat_map group_boxes (take l.group-index l.groups)
