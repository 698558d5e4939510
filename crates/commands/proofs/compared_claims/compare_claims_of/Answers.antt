use Rattle.std.proofs.Common.{arith}
use Rattle.std.proofs.lemmas.Grind.{common_steps}
use Rattle.commands.proofs.Statuses.{comparison_done, comparison_refused, unread_comparison_refused, unread_not_done}
use Rattle.commands.proofs.compared_claims.compare_claims_of.Goals as goal

pub returns-in-Err-clause-done : goal.returns-in-Err-clause-done
returns-in-Err-clause-done g c = λ is_done. absurd (unread_not_done _ _ c.in-Err.ensures.failed is_done)

pub returns-in-Err-clause-refused : goal.returns-in-Err-clause-refused
returns-in-Err-clause-refused g c = unread_comparison_refused _ _ _ c.in-Err.ensures.failed

pub returns-in-Ok-old_plan_of-clause-done : goal.returns-in-Ok-old_plan_of-clause-done
returns-in-Ok-old_plan_of-clause-done g c =
    comparison_done _ _ c.in-Ok.texts c.in-Ok-old_plan_of.old.items c.compare_texts.result c.in-Ok.ensures.named
    c.in-Ok-old_plan_of.ensures.named (rw c.as_slice.ensures.value at c.compare_texts.ensures.done)

pub returns-in-Ok-old_plan_of-clause-refused : goal.returns-in-Ok-old_plan_of-clause-refused
returns-in-Ok-old_plan_of-clause-refused g c =
    comparison_refused _ _ c.in-Ok.texts c.in-Ok-old_plan_of.old.items c.compare_texts.result c.in-Ok.ensures.named
    c.in-Ok-old_plan_of.ensures.named (rw c.as_slice.ensures.value at c.compare_texts.ensures.refused)

pub returns-then-is_some-clause-done : goal.returns-then-is_some-clause-done
returns-then-is_some-clause-done c = grind (arith, common_steps)

pub returns-then-is_some-clause-refused : goal.returns-then-is_some-clause-refused
returns-then-is_some-clause-refused c = grind (arith, common_steps)

pub returns-clause-done : goal.returns-clause-done
returns-clause-done c = grind (arith, common_steps)

pub returns-clause-refused : goal.returns-clause-refused
returns-clause-refused c = grind (arith, common_steps)
