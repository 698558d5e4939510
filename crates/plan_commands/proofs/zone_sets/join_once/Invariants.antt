use Rattle.std.proofs.Common.{take}
use Rattle.plan_commands.specs.ZoneSets.{HaveSameZones}
use Rattle.plan_commands.proofs.zone_sets.join_once.Given as goal

abbrev pub invariant-loop-set : goal.invariant-loop-set
invariant-loop-set l = HaveSameZones (take l.set-index l.sets) l.joined.items
