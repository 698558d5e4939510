use Rattle.std.proofs.Common.{arith}
use Rattle.std.proofs.lemmas.Grind.{common_steps}
use Rattle.feel_tests.proofs.strings.escape.Goals as goal

pub returns-in-34 : goal.returns-in-34
returns-in-34 c = grind (arith, common_steps)

pub returns-in-92 : goal.returns-in-92
returns-in-92 c = grind (arith, common_steps)

pub bounds-following-0 : goal.bounds-following-0
bounds-following-0 c = grind (arith, common_steps)

pub slice_bounds-rest-count : goal.slice_bounds-rest-count
slice_bounds-rest-count c = grind (arith, common_steps)

pub slice_bounds-rest-count-in-92-1 : goal.slice_bounds-rest-count-in-92-1
slice_bounds-rest-count-in-92-1 c = grind (arith, common_steps)

pub slice_bounds-rest-start : goal.slice_bounds-rest-start
slice_bounds-rest-start c = grind (arith, common_steps)

pub slice_bounds-rest-start-in-92-1 : goal.slice_bounds-rest-start-in-92-1
slice_bounds-rest-start-in-92-1 c = grind (arith, common_steps)
