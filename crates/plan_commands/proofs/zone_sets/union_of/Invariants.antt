use Rattle.std.proofs.Common.{take}
use Rattle.plan_commands.specs.ZoneSets.{IsUnion}
use Rattle.plan_commands.proofs.zone_sets.union_of.Given as goal

abbrev pub invariant-loop-region : goal.invariant-loop-region
invariant-loop-region l = IsUnion l.one (take l.region-index l.other) l.both
