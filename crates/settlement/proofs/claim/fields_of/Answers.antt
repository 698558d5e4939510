use Rattle.std.proofs.Common.{arith}
use Rattle.std.proofs.lemmas.Grind.{common_steps}
use Rattle.settlement.proofs.claim.fields_of.Goals as goal

pub slice_bounds-result-count : goal.slice_bounds-result-count
slice_bounds-result-count c = grind (arith, common_steps)

pub slice_bounds-result-start : goal.slice_bounds-result-start
slice_bounds-result-start c = grind (arith, common_steps)

pub slice_bounds-result-count-else-keeps_families : goal.slice_bounds-result-count-else-keeps_families
slice_bounds-result-count-else-keeps_families c = grind (arith, common_steps)

pub slice_bounds-result-start-else-keeps_families : goal.slice_bounds-result-start-else-keeps_families
slice_bounds-result-start-else-keeps_families c = grind (arith, common_steps)

pub returns-then-keeps_families : goal.returns-then-keeps_families
returns-then-keeps_families c = grind (arith, common_steps)

pub returns-else-keeps_families : goal.returns-else-keeps_families
returns-else-keeps_families c = grind (arith, common_steps)
