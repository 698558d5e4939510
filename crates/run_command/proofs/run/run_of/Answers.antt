use Rattle.run_command.proofs.Statuses.{run_done, run_refused, unread_not_done, unread_refused}
use Rattle.run_command.proofs.run.run_of.Goals as goal

pub returns-in-Ok-clause-done : goal.returns-in-Ok-clause-done
returns-in-Ok-clause-done g c = run_done _ _ c.in-Ok.texts _ c.in-Ok.ensures.named c.in-Ok.ensures.closed c.settle_watched-status.ensures.done

pub returns-in-Ok-clause-refused : goal.returns-in-Ok-clause-refused
returns-in-Ok-clause-refused g c = run_refused _ _ c.in-Ok.texts _ c.in-Ok.ensures.named c.settle_watched-status.ensures.refused

pub returns-in-Err-clause-done : goal.returns-in-Err-clause-done
returns-in-Err-clause-done g c = λ is_done. absurd (unread_not_done _ _ c.in-Err.ensures.failed is_done)

pub returns-in-Err-clause-refused : goal.returns-in-Err-clause-refused
returns-in-Err-clause-refused g c = unread_refused _ _ _ c.in-Err.ensures.failed
