use Rattle.std.proofs.Common.{◌≡◌, take}
use Rattle.plan_zones.proofs.zone_box.copy_of.Given as goal

abbrev pub invariant-loop-region : goal.invariant-loop-region
invariant-loop-region l = l.copy ≡ take l.region-index l.side
