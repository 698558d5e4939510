use Rattle.std.proofs.Common.{arith}
use Rattle.std.proofs.lemmas.Grind.{common_steps}
use Rattle.plan_zones.proofs.zone_value.Zone.first_outside.Goals as goal

pub position-requires-clause-fits : goal.position-requires-clause-fits
position-requires-clause-fits c = grind (arith, common_steps)

pub returns-clause-countable : goal.returns-clause-countable
returns-clause-countable c = grind (arith, common_steps)
