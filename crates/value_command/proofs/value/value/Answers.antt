use Rattle.evaluation.specs.Stop.{status_of}
use Rattle.value_command.proofs.Ends.{ends_done, ends_refused}
use Rattle.value_command.proofs.value.value.Goals as goal

pub returns-clause-done : goal.returns-clause-done
returns-clause-done g c = ends_done _ _ _ _ _ c.do_value-answer.ensures.written c.exit_status_of-status.ensures.not_done

pub returns-clause-refused : goal.returns-clause-refused
returns-clause-refused g c = ends_refused status_of _ _ _ c.do_value-answer.ensures.reason c.exit_status_of-status.ensures.done c.exit_status_of-status.ensures.refused
