use Rattle.std.proofs.Common.{take}
use Rattle.plan_commands.specs.ChangeLines.{HaveZonesWith}
use Rattle.plan_commands.proofs.change_lines.zones_with.Given as goal

abbrev pub invariant-loop-own : goal.invariant-loop-own
invariant-loop-own l = HaveZonesWith l.of_change (take l.own-index l.boxes) l.part l.sets.items
