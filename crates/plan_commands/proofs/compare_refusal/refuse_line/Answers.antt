use Rattle.std.proofs.Common.{arith}
use Rattle.std.proofs.lemmas.Grind.{common_steps}
use Rattle.plan_commands.proofs.compare_refusal.refuse_line.Goals as goal

pub returns-then-texts : goal.returns-then-texts
returns-then-texts c = grind (arith, common_steps)
