use Rattle.std.proofs.Common.{arith}
use Rattle.std.proofs.lemmas.Grind.{common_steps}
use Rattle.plan_commands.proofs.pages.push_dead.Goals as goal

pub offset_bounds-place-items-place-index-in-loop-place-2 : goal.offset_bounds-place-items-place-index-in-loop-place-2
offset_bounds-place-items-place-index-in-loop-place-2 c = grind (arith, common_steps)
