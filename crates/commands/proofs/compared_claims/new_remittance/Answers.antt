use Rattle.std.proofs.Common.{arith}
use Rattle.std.proofs.lemmas.Grind.{common_steps}
use Rattle.commands.proofs.compared_claims.new_remittance.Goals as goal

pub returns-in-Err-clause-not_done : goal.returns-in-Err-clause-not_done
returns-in-Err-clause-not_done c = grind (arith, common_steps)

pub returns-in-Err-clause-refused : goal.returns-in-Err-clause-refused
returns-in-Err-clause-refused c = grind (arith, common_steps)

pub returns-in-Ok-clause-remittance : goal.returns-in-Ok-clause-remittance
returns-in-Ok-clause-remittance c = grind (arith, common_steps)
