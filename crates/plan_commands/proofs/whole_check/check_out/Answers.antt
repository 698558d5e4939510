use Rattle.std.proofs.Common.{arith}
use Rattle.std.proofs.lemmas.Grind.{common_steps}
use Rattle.plan_commands.proofs.whole_check.check_out.Goals as goal

pub returns-clause-done : goal.returns-clause-done
returns-clause-done c = grind (arith, common_steps)

pub returns-in-Err-clause-done : goal.returns-in-Err-clause-done
returns-in-Err-clause-done c = grind (arith, common_steps)

pub returns-clause-refused : goal.returns-clause-refused
returns-clause-refused c = grind (arith, common_steps)

pub returns-in-Err-put_all-clause-refused : goal.returns-in-Err-put_all-clause-refused
returns-in-Err-put_all-clause-refused c = grind (arith, common_steps)

pub returns-in-Err-put_all-clause-done : goal.returns-in-Err-put_all-clause-done
returns-in-Err-put_all-clause-done c = grind (arith, common_steps)
