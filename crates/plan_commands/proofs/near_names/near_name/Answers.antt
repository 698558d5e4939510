use Rattle.std.proofs.Common.{arith}
use Rattle.std.proofs.lemmas.Grind.{common_steps}
use Rattle.plan_commands.proofs.near_names.near_name.Goals as goal

pub offset_bounds-output-items-output-index : goal.offset_bounds-output-items-output-index
offset_bounds-output-items-output-index c = grind (arith, common_steps)
