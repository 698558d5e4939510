use Rattle.orders.specs.Stop.{status_of}
use Rattle.value_command.proofs.Ends.{ends_done, ends_refused}
use Rattle.claim_run.specs.RunText.{run_texts}
use Rattle.run_command.proofs.Ordered.{written_in_order}
use Rattle.run_command.proofs.run.run.Goals as goal

pub returns-clause-refused : goal.returns-clause-refused
returns-clause-refused g c = ends_refused status_of _ _ _ c.do_counted_run-answer.ensures.reason c.exit_status_of-status.ensures.done c.exit_status_of-status.ensures.refused

pub returns-clause-done : goal.returns-clause-done
returns-clause-done g c =
    let written = written_in_order c.args.order (run_texts c.args.input) _ _ c.do_counted_run-answer.result c.do_counted_run-answer.ensures.written c.do_counted_run-answer.ensures.ordered in
    ends_done _ _ _ _ _ written c.exit_status_of-status.ensures.not_done
