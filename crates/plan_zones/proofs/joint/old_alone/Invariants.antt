use Rattle.std.proofs.Common.{◌≡◌, filter}
use Rattle.std.specs.List.{range_with_len}
use Rattle.plan_zones.specs.Joint.{is_old_alone}
use Rattle.plan_zones.proofs.joint.old_alone.Given as goal

abbrev pub invariant-loop-place : goal.invariant-loop-place
invariant-loop-place l = l.places ≡ filter (is_old_alone l.old l.new l.renames) (range_with_len 0 l.place)
