use Rattle.std.proofs.Common.{◌≡◌, ◌&&◌, filter, take}
use Rattle.plan_zones.specs.Amounts.{is_possible_region}
use Rattle.plan_zones.specs.Joint.{meets_in}
use Rattle.plan_zones.proofs.joint_regions.possible_regions.Given as goal

abbrev pub invariant-loop-region : goal.invariant-loop-region
invariant-loop-region l = l.regions ≡ filter (λ r. is_possible_region l.amount r && meets_in l.narrowed l.text r) (take l.region-index l.all)
