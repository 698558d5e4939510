use Rattle.plan_rows.specs.RowsStop.{status_of}
use Rattle.value_command.proofs.Ends.{ends_refused}
use Rattle.plan_commands.proofs.RowsStatuses.{all_written, not_all_written}
use Rattle.plan_commands.proofs.rows.rows_out.Goals as goal

pub returns-clause-done : goal.returns-clause-done
returns-clause-done g c =
    all_written _ _ _ _ c.do_rows-answer.result c.exit_status_of-status.result c.ends_in_quotes.result c.status_of_rows.result
    c.do_rows-answer.ensures.written c.exit_status_of-status.ensures.not_done c.ends_in_quotes.ensures c.status_of_rows.ensures.done

pub returns-clause-refused : goal.returns-clause-refused
returns-clause-refused g c =
    let reasons = ends_refused status_of _ c.do_rows-answer.result c.exit_status_of-status.result c.do_rows-answer.ensures.reason c.exit_status_of-status.ensures.done
    c.exit_status_of-status.ensures.refused in
    not_all_written _ _ c.exit_status_of-status.result c.ends_in_quotes.result c.status_of_rows.result reasons c.ends_in_quotes.ensures c.status_of_rows.ensures.refused
