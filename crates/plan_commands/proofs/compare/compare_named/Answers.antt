use Rattle.std.proofs.Common.{arith}
use Rattle.std.proofs.lemmas.Grind.{common_steps}
use Rattle.plan_commands.proofs.Comparisons.{named_refused}
use Rattle.plan_commands.proofs.compare.compare_named.Goals as goal

pub returns-in-Ok-plan_of-clause-refused : goal.returns-in-Ok-plan_of-clause-refused
returns-in-Ok-plan_of-clause-refused g c =
    named_refused _ _ c.in-Ok.old.items c.in-Ok-plan_of.new.items c.compare_texts.result c.in-Ok.ensures.named c.in-Ok-plan_of.ensures.named
    (rw (c.as_slice.ensures.value, c.as_slice-in-Ok-plan_of.ensures.value) at c.compare_texts.ensures.refused)

pub returns-clause-refused : goal.returns-clause-refused
returns-clause-refused c = grind (arith, common_steps)

pub returns-clause-done : goal.returns-clause-done
returns-clause-done c = grind (arith, common_steps)

pub returns-in-Ok-plan_of-clause-done : goal.returns-in-Ok-plan_of-clause-done
returns-in-Ok-plan_of-clause-done c = grind (arith, common_steps)

pub returns-in-Err-clause-refused : goal.returns-in-Err-clause-refused
returns-in-Err-clause-refused c = grind (arith, common_steps)

pub returns-in-Err-clause-done : goal.returns-in-Err-clause-done
returns-in-Err-clause-done c = grind (arith, common_steps)
