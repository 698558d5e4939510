use Rattle.value_command.proofs.Ends.{unjudged_not_done, unjudged_not_refused}
use Rattle.plan_commands.proofs.PageStatuses.{page_done, page_refused}
use Rattle.plan_commands.proofs.names.names_of.Goals as goal

pub returns-in-Err-clause-done : goal.returns-in-Err-clause-done
returns-in-Err-clause-done g c = λ is_done. absurd (unjudged_not_done _ c.in-Err.ensures.failed is_done)

pub returns-in-Err-clause-refused : goal.returns-in-Err-clause-refused
returns-in-Err-clause-refused g c = λ is_refused. absurd (unjudged_not_refused _ c.in-Err.ensures.failed is_refused)

pub returns-clause-done : goal.returns-clause-done
returns-clause-done g c = page_done _ _ _ _ _ c.in-Ok.ensures.named c.as_slice.ensures.value c.put_page.ensures.done

pub returns-clause-refused : goal.returns-clause-refused
returns-clause-refused g c = page_refused _ _ _ _ _ c.in-Ok.ensures.named c.as_slice.ensures.value c.put_page.ensures.refused
