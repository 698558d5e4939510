use Rattle.std.proofs.Common.{◌≡◌, filter, take}
use Rattle.plan_zones.specs.Amounts.{is_possible_region}
use Rattle.plan_zones.proofs.zone_regions.possible.Given as goal

abbrev pub invariant-loop-region : goal.invariant-loop-region
invariant-loop-region l = l.regions ≡ filter (is_possible_region l.amount) (take l.region-index l.all)
