use Rattle.std.proofs.Common.{arith}
use Rattle.std.proofs.lemmas.Grind.{common_steps}
use Rattle.plan_zones.proofs.amounts.money_above.Goals as goal

pub returns-else-units-lt0 : goal.returns-else-units-lt0
returns-else-units-lt0 c = grind (arith, common_steps)

pub overflow_mul-result : goal.overflow_mul-result
overflow_mul-result c = grind (arith, common_steps)

pub overflow_cast-result : goal.overflow_cast-result
overflow_cast-result c = grind (arith, common_steps)

pub overflow_add-result : goal.overflow_add-result
overflow_add-result c = grind (arith, common_steps)

pub nonzero_div-result : goal.nonzero_div-result
nonzero_div-result c = grind (arith, common_steps)
