use Rattle.std.proofs.Common.{arith}
use Rattle.std.proofs.lemmas.Grind.{common_steps}
use Rattle.value_command.proofs.Ends.{unjudged_not_done, unjudged_not_refused}
use Rattle.plan_commands.proofs.PageStatuses.{refused_beside}
use Rattle.plan_commands.proofs.show.show_beside.Goals as goal

pub returns-in-Err-clause-done : goal.returns-in-Err-clause-done
returns-in-Err-clause-done g c = λ is_done. absurd (unjudged_not_done _ c.in-Err.ensures.failed is_done)

pub returns-in-Err-clause-refused : goal.returns-in-Err-clause-refused
returns-in-Err-clause-refused g c = λ is_refused. absurd (unjudged_not_refused _ c.in-Err.ensures.failed is_refused)

pub returns-in-Ok-clause-refused : goal.returns-in-Ok-clause-refused
returns-in-Ok-clause-refused g c = refused_beside _ _ _ _ _ _ c.in-Ok.ensures.named c.as_slice.ensures.value c.show_texts.ensures.refused

pub returns-in-Ok-clause-done : goal.returns-in-Ok-clause-done
returns-in-Ok-clause-done c = grind (arith, common_steps)
