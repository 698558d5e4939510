use Rattle.plan_commands.specs.ChangeLines.{AreLinesOf}
use Rattle.plan_commands.proofs.change_lines.lines_of.Given as goal

abbrev pub invariant-loop-part : goal.invariant-loop-part
invariant-loop-part l = AreLinesOf l.of_change l.boxes l.part l.lines.items
