use Rattle.std.proofs.Common.{◌≡◌, take}
use Rattle.plan_zones.proofs.walk.append_region.Given as goal

abbrev pub invariant-loop-place : goal.invariant-loop-place
invariant-loop-place l = l.next ≡ take l.place-index l.first
