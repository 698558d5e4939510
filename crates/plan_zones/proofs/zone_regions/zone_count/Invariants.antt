use Rattle.std.proofs.Common.{◌≡◌, ◌-◌, ◌^◌, length, min, take}
use Rattle.cutplan.specs.Check.{cells}
use Rattle.plan_zones.proofs.zone_regions.zone_count.Given as goal

abbrev pub invariant-loop-choices : goal.invariant-loop-choices
invariant-loop-choices l = l.count ≡ min (length (cells (take l.choices-index l.regions))) (2 ^ 64 - 1)
