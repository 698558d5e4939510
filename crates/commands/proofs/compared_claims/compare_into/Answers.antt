use Rattle.std.proofs.Common.{arith}
use Rattle.std.proofs.lemmas.Grind.{common_steps}
use Rattle.commands.proofs.compared_claims.compare_into.Goals as goal

pub returns-in-Err-compare_remittances-clause-refused : goal.returns-in-Err-compare_remittances-clause-refused
returns-in-Err-compare_remittances-clause-refused c = grind (arith, common_steps)

pub returns-in-Err-clause-done : goal.returns-in-Err-clause-done
returns-in-Err-clause-done c = grind (arith, common_steps)

pub returns-in-Err-clause-refused : goal.returns-in-Err-clause-refused
returns-in-Err-clause-refused c = grind (arith, common_steps)

pub returns : goal.returns
returns c = grind (arith, common_steps)

pub returns-in-Err-compare_remittances-clause-done : goal.returns-in-Err-compare_remittances-clause-done
returns-in-Err-compare_remittances-clause-done c = grind (arith, common_steps)

pub compare_remittances-requires : goal.compare_remittances-requires
compare_remittances-requires c = grind (arith, common_steps)

pub returns-in-Done-clause-refused : goal.returns-in-Done-clause-refused
returns-in-Done-clause-refused c = grind (arith, common_steps)
