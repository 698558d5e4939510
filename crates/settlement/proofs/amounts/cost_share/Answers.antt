use Rattle.std.proofs.Common.{arith}
use Rattle.std.proofs.lemmas.Grind.{common_steps}
use Rattle.std.proofs.lemmas.Int.{ints}
use Rattle.settlement.proofs.amounts.cost_share.Goals as goal

pub returns-clause-value : goal.returns-clause-value
returns-clause-value c = grind (arith, common_steps)

pub minus-rest-requires : goal.minus-rest-requires
minus-rest-requires c = omega (arith, ints, c.requires, c.minus.ensures.value, c.minus-2.ensures.value)
