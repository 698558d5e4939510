use Rattle.std.proofs.Common.{arith}
use Rattle.std.proofs.lemmas.Grind.{common_steps}
use Rattle.plan_zones.proofs.amounts.has_money_above.Goals as goal

pub money_above-units-requires : goal.money_above-units-requires
money_above-units-requires c = grind (arith, common_steps)
