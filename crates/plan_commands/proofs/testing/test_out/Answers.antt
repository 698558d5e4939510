use Rattle.std.proofs.Common.{inr}
use Rattle.plan_commands.proofs.TestStatuses.{differing_written, right_written}
use Rattle.plan_commands.proofs.testing.test_out.Goals as goal

pub returns-in-Ok-clause-done : goal.returns-in-Ok-clause-done
returns-in-Ok-clause-done g c = right_written _ _ _ _ c.in-Ok.tested c.ends_in_quotes.result c.status_of_tests.result c.in-Ok.ensures.written c.ends_in_quotes.ensures c.status_of_tests.ensures.done

pub returns-in-Ok-clause-refused : goal.returns-in-Ok-clause-refused
returns-in-Ok-clause-refused g c = differing_written _ _ _ _ c.in-Ok.tested c.ends_in_quotes.result c.status_of_tests.result c.in-Ok.ensures.written c.ends_in_quotes.ensures c.status_of_tests.ensures.refused

pub returns-in-Err-clause-done : goal.returns-in-Err-clause-done
returns-in-Err-clause-done g c = λ is_done. absurd (c.refuse.ensures.not_done is_done)

pub returns-in-Err-clause-refused : goal.returns-in-Err-clause-refused
returns-in-Err-clause-refused g c = λ is_refused. inr (inr (record { stop = c.in-Err.stop; reason = c.in-Err.ensures.reason; is_status = c.refuse.ensures.status }))
