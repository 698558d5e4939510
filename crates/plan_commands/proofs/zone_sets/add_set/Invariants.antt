use Rattle.std.proofs.Common.{◌≡◌}
use Rattle.plan_commands.proofs.zone_sets.add_set.Given as goal

abbrev pub invariant-loop-place : goal.invariant-loop-place
invariant-loop-place l = l.sets.items ≡ l.fn.sets.items
