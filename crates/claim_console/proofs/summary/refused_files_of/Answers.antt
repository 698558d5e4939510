use Rattle.std.proofs.Common.{arith}
use Rattle.std.proofs.lemmas.Grind.{common_steps}
use Rattle.claim_console.proofs.summary.refused_files_of.Goals as goal

pub bounds-files-place-then-is_all_refused : goal.bounds-files-place-then-is_all_refused
bounds-files-place-then-is_all_refused c = grind (arith, common_steps)

pub offset_bounds-files-place-then-is_all_refused : goal.offset_bounds-files-place-then-is_all_refused
offset_bounds-files-place-then-is_all_refused c = grind (arith, common_steps)

pub overflow_add-place : goal.overflow_add-place
overflow_add-place c = grind (arith, common_steps)
