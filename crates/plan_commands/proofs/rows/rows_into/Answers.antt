use Rattle.std.proofs.Common.{refl, arith}
use Rattle.std.proofs.lemmas.Grind.{common_steps}
use Rattle.evaluation.specs.declared.stop.ValueStop.TheVariants.{NoMemory}
use Rattle.plan_rows.specs.declared.rows_stop.RowsStop.TheVariants.{Value}
use Rattle.plan_rows.specs.RowsStop.{status_of}
use Rattle.value_command.proofs.Ends.{placed_refused}
use Rattle.plan_commands.proofs.RowsStatuses.{all_written, not_all_written}
use Rattle.plan_commands.proofs.rows.rows_into.Goals as goal

pub returns-in-Err-clause-done : goal.returns-in-Err-clause-done
returns-in-Err-clause-done g c = grind (arith, common_steps)

pub returns-in-Err-clause-refused : goal.returns-in-Err-clause-refused
returns-in-Err-clause-refused g c = grind (arith, common_steps)

pub returns-clause-done : goal.returns-clause-done
returns-clause-done g c =
    all_written _ _ _ _ c.do_rows-answer.result c.commit_output-status.result c.ends_in_quotes.result c.status_of_rows.result
    c.do_rows-answer.ensures.written c.commit_output-status.ensures.refused c.ends_in_quotes.ensures c.status_of_rows.ensures.done

pub returns-clause-refused : goal.returns-clause-refused
returns-clause-refused g c =
    let reasons = placed_refused status_of _ (Value NoMemory) refl tt c.do_rows-answer.result c.commit_output-status.result c.do_rows-answer.ensures.reason
    c.commit_output-status.ensures.status in
    not_all_written _ _ c.commit_output-status.result c.ends_in_quotes.result c.status_of_rows.result reasons c.ends_in_quotes.ensures c.status_of_rows.ensures.refused
