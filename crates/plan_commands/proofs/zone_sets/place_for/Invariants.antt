use Rattle.std.proofs.Common.{◌≤◌}
use Rattle.plan_commands.proofs.zone_sets.place_for.Given as goal

abbrev pub invariant-loop-known : goal.invariant-loop-known
invariant-loop-known l = l.place ≤ l.known-index
