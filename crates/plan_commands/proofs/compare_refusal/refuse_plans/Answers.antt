use Rattle.std.proofs.Common.{arith}
use Rattle.std.proofs.lemmas.Grind.{common_steps}
use Rattle.plan_commands.proofs.compare_refusal.refuse_plans.Goals as goal

pub returns-in-NoNarrowed-clause-memory : goal.returns-in-NoNarrowed-clause-memory
returns-in-NoNarrowed-clause-memory c = grind (arith, common_steps)

pub returns-in-OutOfMemory-clause-not_done : goal.returns-in-OutOfMemory-clause-not_done
returns-in-OutOfMemory-clause-not_done c = grind (arith, common_steps)

pub returns-in-NoOldName-clause-memory : goal.returns-in-NoOldName-clause-memory
returns-in-NoOldName-clause-memory c = grind (arith, common_steps)

pub returns-in-NoNewName-clause-memory : goal.returns-in-NoNewName-clause-memory
returns-in-NoNewName-clause-memory c = grind (arith, common_steps)
