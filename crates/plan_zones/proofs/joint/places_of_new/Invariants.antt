use Rattle.std.proofs.Common.{◌≡◌, map}
use Rattle.std.specs.Prelude.{Some}
use Rattle.std.specs.List.{range_with_len}
use Rattle.plan_zones.specs.Joint.{place_of_new}
use Rattle.plan_zones.proofs.joint.places_of_new.Given as goal

abbrev pub invariant-loop-own : goal.invariant-loop-own
invariant-loop-own l = map (λ place. Some place) l.places ≡ map (place_of_new l.names) (range_with_len 0 l.own)
