use Rattle.std.proofs.Common.{arith}
use Rattle.std.proofs.lemmas.Grind.{elements}
use Rattle.plan_zones.proofs.zone_value.Zone.region_at.Goals as goal

pub returns-in_err-get : goal.returns-in_err-get
returns-in_err-get c = grind (arith, elements)

pub returns-in_err-regions : goal.returns-in_err-regions
returns-in_err-regions c = grind (arith, elements)

pub returns : goal.returns
returns c = grind (arith, elements)
