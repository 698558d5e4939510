use Rattle.std.proofs.Common.{◌≡◌}
use Rattle.plan_commands.proofs.change_lines.add_line.Given as goal

abbrev pub invariant-loop-place : goal.invariant-loop-place
invariant-loop-place l = l.lines.items ≡ l.fn.lines.items
