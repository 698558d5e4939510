use Rattle.std.proofs.Common.{arith}
use Rattle.std.proofs.lemmas.Grind.{common_steps}
use Rattle.plan_commands.proofs.pages.shown_name.Goals as goal

pub returns-in-Some-text : goal.returns-in-Some-text
returns-in-Some-text c = grind (arith, common_steps)
