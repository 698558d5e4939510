use Rattle.std.proofs.Common.{arith}
use Rattle.std.proofs.lemmas.Grind.{common_steps}
use Rattle.plan_commands.proofs.zone_cells.marks_of.Goals as goal

pub part_some-marks : goal.part_some-marks
part_some-marks c = grind (arith, common_steps)

pub part_none-marks : goal.part_none-marks
part_none-marks c = grind (arith, common_steps)
