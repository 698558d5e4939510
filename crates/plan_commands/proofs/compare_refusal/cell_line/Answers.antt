use Rattle.std.proofs.Common.{arith}
use Rattle.std.proofs.lemmas.Grind.{common_steps}
use Rattle.plan_commands.proofs.compare_refusal.cell_line.Goals as goal

pub fact_in-format-2 : goal.fact_in-format-2
fact_in-format-2 c = grind (arith, common_steps)

pub fact_in-text : goal.fact_in-text
fact_in-text c = grind (arith, common_steps)
