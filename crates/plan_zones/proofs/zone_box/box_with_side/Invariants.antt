use Rattle.std.proofs.Common.{◌≡◌, ◌∷◌, take}
use Rattle.plan_zones.proofs.zone_box.box_with_side.Given as goal

abbrev pub invariant-loop-other : goal.invariant-loop-other
invariant-loop-other l = l.sides ≡ l.side ∷ take l.other-index l.other-items
