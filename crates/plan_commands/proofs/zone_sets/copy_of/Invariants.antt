use Rattle.std.proofs.Common.{◌≡◌, take}
use Rattle.plan_commands.proofs.zone_sets.copy_of.Given as goal

abbrev pub invariant-loop-region : goal.invariant-loop-region
invariant-loop-region l = l.copy ≡ take l.region-index l.side
