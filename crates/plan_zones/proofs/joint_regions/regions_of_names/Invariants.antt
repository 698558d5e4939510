use Rattle.std.proofs.Common.{◌≡◌, map, take}
use Rattle.plan_zones.specs.Joint.{regions_of, two_plans}
use Rattle.plan_zones.proofs.joint_regions.regions_of_names.Given as goal

abbrev pub invariant-loop-name : goal.invariant-loop-name
invariant-loop-name l = l.regions ≡ map (regions_of (two_plans l.old l.new l.narrowed)) (take l.name-index l.names)
