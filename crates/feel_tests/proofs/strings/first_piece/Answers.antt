use Rattle.std.proofs.Common.{arith}
use Rattle.std.proofs.lemmas.Grind.{common_steps}
use Rattle.feel_tests.proofs.strings.first_piece.Goals as goal

pub returns-in-len1-up : goal.returns-in-len1-up
returns-in-len1-up c = grind (arith, common_steps)

pub returns-in-34 : goal.returns-in-34
returns-in-34 c = grind (arith, common_steps)

pub returns-in-92 : goal.returns-in-92
returns-in-92 c = grind (arith, common_steps)

pub bounds-rest-0 : goal.bounds-rest-0
bounds-rest-0 c = grind (arith, common_steps)

pub bounds-rest-0-in_default-1 : goal.bounds-rest-0-in_default-1
bounds-rest-0-in_default-1 c = grind (arith, common_steps)

pub slice_bounds-following-count : goal.slice_bounds-following-count
slice_bounds-following-count c = grind (arith, common_steps)

pub slice_bounds-following-count-in-92-1 : goal.slice_bounds-following-count-in-92-1
slice_bounds-following-count-in-92-1 c = grind (arith, common_steps)

pub slice_bounds-following-count-in_default-1 : goal.slice_bounds-following-count-in_default-1
slice_bounds-following-count-in_default-1 c = grind (arith, common_steps)

pub slice_bounds-following-start : goal.slice_bounds-following-start
slice_bounds-following-start c = grind (arith, common_steps)

pub slice_bounds-following-start-in-92-1 : goal.slice_bounds-following-start-in-92-1
slice_bounds-following-start-in-92-1 c = grind (arith, common_steps)

pub slice_bounds-following-start-in_default-1 : goal.slice_bounds-following-start-in_default-1
slice_bounds-following-start-in_default-1 c = grind (arith, common_steps)
