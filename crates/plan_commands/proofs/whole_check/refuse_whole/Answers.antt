use Rattle.std.proofs.Common.{arith}
use Rattle.std.proofs.lemmas.Grind.{common_steps}
use Rattle.plan_commands.proofs.whole_check.refuse_whole.Goals as goal

pub returns-in-Value-clause-refused : goal.returns-in-Value-clause-refused
returns-in-Value-clause-refused c = grind (arith, common_steps)

pub returns-in-InputRole-clause-refused : goal.returns-in-InputRole-clause-refused
returns-in-InputRole-clause-refused c = grind (arith, common_steps)

pub returns-in-Value-clause-not_done : goal.returns-in-Value-clause-not_done
returns-in-Value-clause-not_done c = grind (arith, common_steps)
