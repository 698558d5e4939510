use Rattle.std.proofs.Common.{arith}
use Rattle.std.proofs.lemmas.Grind.{common_steps}
use Rattle.plan_commands.proofs.compare_refusal.refuse_plan.Goals as goal

pub returns-then-matches-clause-status : goal.returns-then-matches-clause-status
returns-then-matches-clause-status c = grind (arith, common_steps)

pub returns-then-matches-clause-not_done : goal.returns-then-matches-clause-not_done
returns-then-matches-clause-not_done c = grind (arith, common_steps)

pub returns-clause-not_done : goal.returns-clause-not_done
returns-clause-not_done c = grind (arith, common_steps)
