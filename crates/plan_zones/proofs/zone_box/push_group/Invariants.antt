use Rattle.std.proofs.Common.{◌≡◌, ◌++◌, map, take}
use Rattle.plan_zones.specs.Boxes.{with_side}
use Rattle.plan_zones.proofs.zone_box.push_group.Given as goal

abbrev pub invariant-loop-inner : goal.invariant-loop-inner
invariant-loop-inner l = l.found ≡ l.fn.found ++ map (with_side l.group.side) (take l.inner-index l.inner-items)
