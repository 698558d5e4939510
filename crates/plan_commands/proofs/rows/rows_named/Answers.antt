use Rattle.std.proofs.Common.{arith}
use Rattle.std.proofs.lemmas.Grind.{common_steps}
use Rattle.value_command.proofs.Ends.{unjudged_not_done, unjudged_not_refused}
use Rattle.plan_commands.proofs.RowsStatuses.{rows_done, rows_refused}
use Rattle.plan_commands.proofs.rows.rows_named.Goals as goal

pub returns-in-Err-clause-done : goal.returns-in-Err-clause-done
returns-in-Err-clause-done g c = λ is_done. absurd (unjudged_not_done _ c.in-Err.ensures.failed is_done)

pub returns-in-Err-clause-refused : goal.returns-in-Err-clause-refused
returns-in-Err-clause-refused g c = λ is_refused. absurd (unjudged_not_refused _ c.in-Err.ensures.failed is_refused)

pub returns-in-Ok-rows_text_of-clause-done : goal.returns-in-Ok-rows_text_of-clause-done
returns-in-Ok-rows_text_of-clause-done g c =
    rows_done _ _ c.in-Ok.plan.items c.in-Ok-rows_text_of.rows.items c.rows_texts.result c.in-Ok.ensures.named
    c.in-Ok-rows_text_of.ensures.named (rw (c.as_slice.ensures.value, c.as_slice-in-Ok-rows_text_of.ensures.value) at c.rows_texts.ensures.done)

pub returns-in-Ok-rows_text_of-clause-refused : goal.returns-in-Ok-rows_text_of-clause-refused
returns-in-Ok-rows_text_of-clause-refused g c =
    rows_refused _ _ c.in-Ok.plan.items c.in-Ok-rows_text_of.rows.items c.rows_texts.result c.in-Ok.ensures.named
    c.in-Ok-rows_text_of.ensures.named (rw (c.as_slice.ensures.value, c.as_slice-in-Ok-rows_text_of.ensures.value) at c.rows_texts.ensures.refused)

pub returns-clause-refused : goal.returns-clause-refused
returns-clause-refused c = grind (arith, common_steps)

pub returns-clause-done : goal.returns-clause-done
returns-clause-done c = grind (arith, common_steps)
