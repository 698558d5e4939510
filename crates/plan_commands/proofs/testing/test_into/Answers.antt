use Rattle.std.proofs.Common.{arith}
use Rattle.std.proofs.lemmas.Grind.{common_steps}
use Rattle.plan_commands.proofs.testing.test_into.Goals as goal

pub returns-in-Done-clause-done : goal.returns-in-Done-clause-done
returns-in-Done-clause-done c = grind (arith, common_steps)

pub returns-in-Ok-do_test : goal.returns-in-Ok-do_test
returns-in-Ok-do_test c = grind (arith, common_steps)

pub returns-clause-refused : goal.returns-clause-refused
returns-clause-refused c = grind (arith, common_steps)

pub returns-in-Err-clause-done : goal.returns-in-Err-clause-done
returns-in-Err-clause-done c = grind (arith, common_steps)

pub returns-in-Err-clause-refused : goal.returns-in-Err-clause-refused
returns-in-Err-clause-refused c = grind (arith, common_steps)

pub returns-clause-done : goal.returns-clause-done
returns-clause-done c = grind (arith, common_steps)
