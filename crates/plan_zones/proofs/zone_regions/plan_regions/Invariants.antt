use Rattle.std.proofs.Common.{◌≡◌, map}
use Rattle.std.specs.List.{range_with_len}
use Rattle.plan_zones.specs.Zones.{regions_at}
use Rattle.plan_zones.proofs.zone_regions.plan_regions.Given as goal

abbrev pub invariant-loop-name : goal.invariant-loop-name
invariant-loop-name l = l.regions ≡ map (regions_at l.plan) (range_with_len 0 l.name)
