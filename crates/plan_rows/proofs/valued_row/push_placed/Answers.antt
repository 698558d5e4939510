use Rattle.std.proofs.Common.{arith}
use Rattle.std.proofs.lemmas.Grind.{common_steps}
use Rattle.plan_rows.proofs.valued_row.push_placed.Goals as goal

pub returns-in-None : goal.returns-in-None
returns-in-None c = grind (arith, common_steps)

pub returns-in-Some-at : goal.returns-in-Some-at
returns-in-Some-at c = grind (arith, common_steps)
