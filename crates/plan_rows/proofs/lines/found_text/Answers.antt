use Rattle.std.proofs.Common.{arith}
use Rattle.std.proofs.lemmas.Grind.{common_steps}
use Rattle.plan_rows.proofs.lines.found_text.Goals as goal

pub returns-in-Some : goal.returns-in-Some
returns-in-Some c = grind (arith, common_steps)

pub returns-in-None : goal.returns-in-None
returns-in-None c = grind (arith, common_steps)

pub returns-in_ok-found-in-Fault : goal.returns-in_ok-found-in-Fault
returns-in_ok-found-in-Fault c = grind (arith, common_steps)

pub returns-in-Expected : goal.returns-in-Expected
returns-in-Expected c = grind (arith, common_steps)
