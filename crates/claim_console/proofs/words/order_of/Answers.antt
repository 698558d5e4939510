use Rattle.std.proofs.Common.{arith}
use Rattle.std.proofs.lemmas.Grind.{common_steps}
use Rattle.claim_console.proofs.words.order_of.Goals as goal

pub returns-in_default-word : goal.returns-in_default-word
returns-in_default-word c = grind (arith, common_steps)
