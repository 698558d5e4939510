use Rattle.std.proofs.Common.{arith}
use Rattle.std.proofs.lemmas.Grind.{common_steps}
use Rattle.plan_zones.proofs.zone_value.Zone.cells_hold.Goals as goal

pub all-requires-clause-can : goal.all-requires-clause-can
all-requires-clause-can c = grind (arith, common_steps)

pub all-requires-clause-callable : goal.all-requires-clause-callable
all-requires-clause-callable c = grind (arith, common_steps)
