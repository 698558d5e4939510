use Rattle.std.proofs.Common.{arith}
use Rattle.std.proofs.lemmas.Grind.{common_steps}
use Rattle.tables.proofs.plan.are_served.Goals as goal

pub loop-table-preserved : goal.loop-table-preserved
loop-table-preserved c = grind (arith, common_steps)

pub returns-then-not-is_served : goal.returns-then-not-is_served
returns-then-not-is_served c = grind (arith, common_steps)
