use Rattle.std.proofs.Common.{arith}
use Rattle.std.proofs.lemmas.Grind.{common_steps}
use Rattle.plan_commands.proofs.compare_refusal.refuse_word.Goals as goal

pub returns-in-NoNewName-clause-not_done : goal.returns-in-NoNewName-clause-not_done
returns-in-NoNewName-clause-not_done c = grind (arith, common_steps)

pub returns-in-NoCell-clause-not_done : goal.returns-in-NoCell-clause-not_done
returns-in-NoCell-clause-not_done c = grind (arith, common_steps)
