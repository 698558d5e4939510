use Rattle.std.proofs.Common.{arith}
use Rattle.std.proofs.lemmas.Grind.{common_steps}
use Rattle.run_command.proofs.run.settle_watched.Goals as goal

pub returns-in-Some-heartbeat-clause-refused : goal.returns-in-Some-heartbeat-clause-refused
returns-in-Some-heartbeat-clause-refused c = grind (arith, common_steps)

pub returns-in_default-clause-refused : goal.returns-in_default-clause-refused
returns-in_default-clause-refused c = grind (arith, common_steps)

pub returns-in_default-clause-done : goal.returns-in_default-clause-done
returns-in_default-clause-done c = grind (arith, common_steps)

pub returns-in-Some-heartbeat-clause-done : goal.returns-in-Some-heartbeat-clause-done
returns-in-Some-heartbeat-clause-done c = grind (arith, common_steps)
