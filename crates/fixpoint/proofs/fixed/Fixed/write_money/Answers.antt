use Rattle.std.proofs.lemmas.Grind.{common_steps}
use Rattle.std.proofs.Common.{arith}
use Rattle.fixpoint.proofs.fixed.Fixed.write_money.Goals as goal

pub money-requires-clause-cents : goal.money-requires-clause-cents
money-requires-clause-cents c = grind (arith, common_steps)

pub money-requires-clause-in_range : goal.money-requires-clause-in_range
money-requires-clause-in_range c = grind (arith, common_steps)
