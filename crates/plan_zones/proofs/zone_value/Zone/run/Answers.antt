use Rattle.std.proofs.Common.{arith}
use Rattle.std.proofs.lemmas.Grind.{common_steps}
use Rattle.plan_zones.proofs.zone_value.Zone.run.Goals as goal

pub same-giving-in-loop-table : goal.same-giving-in-loop-table
same-giving-in-loop-table c = grind (arith, common_steps)

pub returns-clause-giving : goal.returns-clause-giving
returns-clause-giving c = grind (arith, common_steps)

pub returns-in-None-clause-answers : goal.returns-in-None-clause-answers
returns-in-None-clause-answers c = grind (arith, common_steps)

pub returns-in-None-clause-giving : goal.returns-in-None-clause-giving
returns-in-None-clause-giving c = grind (arith, common_steps)

pub returns-clause-answers : goal.returns-clause-answers
returns-clause-answers c = grind (arith, common_steps)

pub loop-table-preserved : goal.loop-table-preserved
loop-table-preserved c = grind (arith, common_steps)
