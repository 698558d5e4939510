use Rattle.std.proofs.Common.{arith}
use Rattle.std.proofs.lemmas.Grind.{common_steps}
use Rattle.claim_console.proofs.explaining.refuse.Goals as goal

pub returns-clause-not_done : goal.returns-clause-not_done
returns-clause-not_done c = grind (arith, common_steps)
