use Rattle.std.proofs.Common.{◌≡◌, ◌∷◌, take}
use Rattle.plan_commands.proofs.zone_sets.with_first.Given as goal

abbrev pub invariant-loop-side : goal.invariant-loop-side
invariant-loop-side l = l.sides ≡ l.first ∷ take l.side-index l.rest
