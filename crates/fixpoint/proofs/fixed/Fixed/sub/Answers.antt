use Rattle.std.proofs.lemmas.Grind.{common_steps}
use Rattle.std.proofs.Common.{arith}
use Rattle.fixpoint.proofs.fixed.Fixed.sub.Goals as goal

pub returns : goal.returns
returns c = grind (arith, common_steps)

pub overflow_sub-self-inside : goal.overflow_sub-self-inside
overflow_sub-self-inside c = grind (arith, common_steps)
