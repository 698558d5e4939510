use Rattle.std.proofs.lemmas.Grind.{common_steps}
use Rattle.std.proofs.Common.{arith}
use Rattle.fixpoint.proofs.reading.without_sign.Goals as goal

pub returns-then-text-eq45-clause-joined : goal.returns-then-text-eq45-clause-joined
returns-then-text-eq45-clause-joined c = grind (arith, common_steps)

pub returns-else-not-is_empty-clause-signed : goal.returns-else-not-is_empty-clause-signed
returns-else-not-is_empty-clause-signed c = grind (arith, common_steps)

pub bounds-text-0 : goal.bounds-text-0
bounds-text-0 c = grind (arith, common_steps)

pub slice_bounds-result-count : goal.slice_bounds-result-count
slice_bounds-result-count c = grind (arith, common_steps)
