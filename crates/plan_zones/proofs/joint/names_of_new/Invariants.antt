use Rattle.std.proofs.Common.{◌≡◌, map}
use Rattle.std.specs.List.{range_with_len}
use Rattle.plan_zones.specs.Joint.{name_of_new}
use Rattle.plan_zones.proofs.joint.names_of_new.Given as goal

abbrev pub invariant-loop-place : goal.invariant-loop-place
invariant-loop-place l = l.names ≡ map (name_of_new l.old l.new l.renames) (range_with_len 0 l.place)
