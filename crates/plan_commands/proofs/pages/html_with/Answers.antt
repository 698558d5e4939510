use Rattle.std.proofs.Common.{arith}
use Rattle.std.proofs.lemmas.Grind.{common_steps}
use Rattle.plan_commands.proofs.pages.html_with.Goals as goal

pub fact_in-checked : goal.fact_in-checked
fact_in-checked c = grind (arith, common_steps)

pub fact_in-checked-4 : goal.fact_in-checked-4
fact_in-checked-4 c = grind (arith, common_steps)
