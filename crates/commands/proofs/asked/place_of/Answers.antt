use Rattle.std.proofs.Common.{arith}
use Rattle.std.proofs.lemmas.Grind.{common_steps}
use Rattle.commands.proofs.asked.place_of.Goals as goal

pub returns-in_err-word : goal.returns-in_err-word
returns-in_err-word c = grind (arith, common_steps)
