use Rattle.std.proofs.Common.{◌≡◌, take}
use Rattle.plan_commands.proofs.zone_sets.set_with.Given as goal

abbrev pub invariant-loop-side : goal.invariant-loop-side
invariant-loop-side l = l.own ≡ take l.side-index l.sides
