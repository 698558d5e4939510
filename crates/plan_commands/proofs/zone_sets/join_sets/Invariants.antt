use Rattle.plan_commands.specs.ZoneSets.{HaveSameZones}
use Rattle.plan_commands.proofs.zone_sets.join_sets.Given as goal

abbrev pub invariant-loop : goal.invariant-loop
invariant-loop l = HaveSameZones l.fn.sets.items l.joined.items
