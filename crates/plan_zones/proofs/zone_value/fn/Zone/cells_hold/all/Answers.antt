use Rattle.std.proofs.Common.{arith}
use Rattle.std.proofs.lemmas.Grind.{common_steps}
use Rattle.plan_zones.proofs.zone_value.fn.Zone.cells_hold.all.Goals as goal

pub returns-kept-1 : goal.returns-kept-1
returns-kept-1 c = grind (arith, common_steps)
