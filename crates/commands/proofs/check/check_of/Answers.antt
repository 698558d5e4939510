use Rattle.std.proofs.Common.{arith}
use Rattle.std.proofs.lemmas.Grind.{common_steps}
use Rattle.value_command.proofs.Ends.{unjudged_not_done, unjudged_not_refused}
use Rattle.commands.proofs.Checks.{check_done}
use Rattle.commands.proofs.check.check_of.Goals as goal

pub returns-in-Err-clause-done : goal.returns-in-Err-clause-done
returns-in-Err-clause-done g c = λ is_done. absurd (unjudged_not_done _ c.in-Err.ensures.failed is_done)

pub returns-in-Err-clause-refused : goal.returns-in-Err-clause-refused
returns-in-Err-clause-refused g c = λ is_refused. absurd (unjudged_not_refused _ c.in-Err.ensures.failed is_refused)

pub returns-then-is_strict-clause-done : goal.returns-then-is_strict-clause-done
returns-then-is_strict-clause-done g c =
    λ is_done. check_done _ _ _ _ _ c.in-Ok.ensures.named c.as_slice.ensures.value c.checked_status-status.ensures.done (c.strict_status.ensures is_done)

pub returns-clause-refused : goal.returns-clause-refused
returns-clause-refused c = grind (arith, common_steps)

pub returns-then-is_strict-clause-refused : goal.returns-then-is_strict-clause-refused
returns-then-is_strict-clause-refused c = grind (arith, common_steps)

pub returns-clause-done : goal.returns-clause-done
returns-clause-done c = grind (arith, common_steps)
