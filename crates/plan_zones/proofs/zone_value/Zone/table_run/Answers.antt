use Rattle.std.proofs.Common.{arith}
use Rattle.std.proofs.lemmas.Grind.{common_steps}
use Rattle.plan_zones.proofs.zone_value.Zone.table_run.Goals as goal

pub same-answers : goal.same-answers
same-answers c = grind (arith, common_steps)

pub returns : goal.returns
returns c = grind (arith, common_steps)
