use Rattle.std.proofs.Common.{arith}
use Rattle.std.proofs.lemmas.Grind.{common_steps}
use Rattle.plan_rows.proofs.plain.append_day.Goals as goal

pub returns : goal.returns
returns c = grind (arith, common_steps)

pub overflow_sub-end : goal.overflow_sub-end
overflow_sub-end c = grind (arith, common_steps)

pub slice_bounds-extend_from_slice-start : goal.slice_bounds-extend_from_slice-start
slice_bounds-extend_from_slice-start c = grind (arith, common_steps)

pub slice_bounds-extend_from_slice-count : goal.slice_bounds-extend_from_slice-count
slice_bounds-extend_from_slice-count c = grind (arith, common_steps)
