use Rattle.std.proofs.lemmas.Grind.{common_steps}
use Rattle.std.proofs.Common.{arith}
use Rattle.fixpoint.proofs.fixed.Fixed.units.Goals as goal

pub returns-clause-value : goal.returns-clause-value
returns-clause-value c = grind (arith, common_steps)

pub returns-clause-in_range : goal.returns-clause-in_range
returns-clause-in_range c = grind (arith, common_steps)
