use Rattle.std.proofs.Common.{length}
use Rattle.plan_commands.proofs.change_lines.+is_on.Given as goal

abbrev pub decreases-is_on : goal.decreases-is_on
decreases-is_on l = length l.parts.now
