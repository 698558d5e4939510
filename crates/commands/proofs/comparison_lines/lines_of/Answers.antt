use Rattle.std.proofs.Common.{arith}
use Rattle.std.proofs.lemmas.Grind.{common_steps}
use Rattle.commands.proofs.comparison_lines.lines_of.Goals as goal

pub offset_bounds-count-items-count-index : goal.offset_bounds-count-items-count-index
offset_bounds-count-items-count-index c = grind (arith, common_steps)
