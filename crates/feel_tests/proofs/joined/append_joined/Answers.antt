use Rattle.std.proofs.Common.{arith}
use Rattle.std.proofs.lemmas.Grind.{common_steps}
use Rattle.feel_tests.proofs.joined.append_joined.Goals as goal

pub returns-in_ok-append-in-len1-up : goal.returns-in_ok-append-in-len1-up
returns-in_ok-append-in-len1-up g c = grind (arith, common_steps)

pub slice_bounds-others-start : goal.slice_bounds-others-start
slice_bounds-others-start g c = grind (arith, common_steps)

pub bounds-items-0 : goal.bounds-items-0
bounds-items-0 g c = grind (arith, common_steps)

pub slice_bounds-others-count : goal.slice_bounds-others-count
slice_bounds-others-count g c = grind (arith, common_steps)

pub scale_in_slice-others : goal.scale_in_slice-others
scale_in_slice-others g c = grind (arith, common_steps)
