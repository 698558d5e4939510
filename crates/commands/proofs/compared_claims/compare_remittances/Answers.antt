use Rattle.std.proofs.Common.{arith}
use Rattle.std.proofs.lemmas.Grind.{common_steps}
use Rattle.commands.proofs.compared_claims.compare_remittances.Goals as goal

pub returns-in-Err-clause-not_done : goal.returns-in-Err-clause-not_done
returns-in-Err-clause-not_done c = grind (arith, common_steps)

pub returns-clause-refused : goal.returns-clause-refused
returns-clause-refused c = grind (arith, common_steps)

pub returns-in-Err-clause-refused : goal.returns-in-Err-clause-refused
returns-in-Err-clause-refused c = grind (arith, common_steps)

pub new_remittance-requires : goal.new_remittance-requires
new_remittance-requires c = grind (arith, common_steps)

pub returns-in-Err-new_remittance-clause-not_done : goal.returns-in-Err-new_remittance-clause-not_done
returns-in-Err-new_remittance-clause-not_done c = grind (arith, common_steps)

pub returns-clause-not_done : goal.returns-clause-not_done
returns-clause-not_done c = grind (arith, common_steps)

pub returns-in-Err-new_remittance-clause-refused : goal.returns-in-Err-new_remittance-clause-refused
returns-in-Err-new_remittance-clause-refused c = grind (arith, common_steps)
