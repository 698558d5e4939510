use Rattle.std.proofs.Common.{take}
use Rattle.plan_commands.specs.ZoneSets.{AreIn}
use Rattle.plan_commands.specs.ChangeLines.{HavePart}
use Rattle.plan_commands.proofs.change_lines.add_sets.Given as goal

abbrev pub invariant-loop-set : goal.invariant-loop-set
invariant-loop-set l = HavePart l.fn.lines.items l.part (AreIn (take l.set-index l.sets)) l.lines.items
