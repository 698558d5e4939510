use Rattle.std.proofs.Common.{arith}
use Rattle.std.proofs.lemmas.Grind.{common_steps}
use Rattle.remit.proofs.by_threads.next_group.Goals as goal

pub overflow_add-result : goal.overflow_add-result
overflow_add-result c = grind (arith, common_steps)

pub returns-then-longest-claims-clause-some : goal.returns-then-longest-claims-clause-some
returns-then-longest-claims-clause-some c = grind (arith, common_steps)
