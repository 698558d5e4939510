use Rattle.std.proofs.Common.{map, take}
use Rattle.std.specs.List.{AllZip}
use Rattle.plan_rows.specs.Placed.{IsPlaceOf}
use Rattle.plan_rows.proofs.valued_rows.places_of.Given as goal

-- the places of the outputs so far
abbrev pub invariant-loop-name : goal.invariant-loop-name
invariant-loop-name l = AllZip (IsPlaceOf l.plan.tables) (map (λ n. n.now) (take l.name-index l.names)) l.places.items
