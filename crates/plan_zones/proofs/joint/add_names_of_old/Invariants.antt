use Rattle.std.proofs.Common.{◌≡◌, ◌++◌, map, take}
use Rattle.plan_zones.specs.Joint.{name_of_old}
use Rattle.plan_zones.proofs.joint.add_names_of_old.Given as goal

abbrev pub invariant-loop-place : goal.invariant-loop-place
invariant-loop-place l = l.names ≡ l.fn.names ++ map name_of_old (take l.place-index l.place-items)
