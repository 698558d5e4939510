use Rattle.value_command.proofs.command.matched_status.Goals as goal

pub returns-in-Ok-clause-done : goal.returns-in-Ok-clause-done
returns-in-Ok-clause-done g c = rw c.in-Ok.is c.command.ensures.done

pub returns-in-Ok-clause-refused : goal.returns-in-Ok-clause-refused
returns-in-Ok-clause-refused g c = rw c.in-Ok.is c.command.ensures.refused

pub returns-in-Err-clause-refused : goal.returns-in-Err-clause-refused
returns-in-Err-clause-refused g c = λ is_refused. absurd (c.usage.ensures.not_refused is_refused)
