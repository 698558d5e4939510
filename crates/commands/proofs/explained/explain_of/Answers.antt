use Rattle.std.proofs.Common.{arith}
use Rattle.std.proofs.lemmas.Grind.{common_steps}
use Rattle.commands.proofs.Explanations.{explain_done, explain_refused, unread_explain_refused}
use Rattle.commands.proofs.Statuses.{unread_not_done}
use Rattle.commands.proofs.explained.explain_of.Goals as goal

pub returns-in-Err-clause-done : goal.returns-in-Err-clause-done
returns-in-Err-clause-done g c = λ is_done. absurd (unread_not_done _ _ c.in-Err.ensures.failed is_done)

pub returns-in-Err-clause-refused : goal.returns-in-Err-clause-refused
returns-in-Err-clause-refused g c = unread_explain_refused _ _ _ c.in-Err.ensures.failed

pub returns-in-Ok-clause-done : goal.returns-in-Ok-clause-done
returns-in-Ok-clause-done g c = explain_done _ _ c.in-Some.asked c.in-Ok.texts _ c.in-Some.ensures.asked c.in-Ok.ensures.named c.explain_texts.ensures.done

pub returns-in-Ok-clause-refused : goal.returns-in-Ok-clause-refused
returns-in-Ok-clause-refused g c = explain_refused _ _ c.in-Some.asked c.in-Ok.texts _ c.in-Some.ensures.asked c.in-Ok.ensures.named c.explain_texts.ensures.refused

pub returns-in_default-clause-refused : goal.returns-in_default-clause-refused
returns-in_default-clause-refused c = grind (arith, common_steps)

pub explain_texts-requires : goal.explain_texts-requires
explain_texts-requires c = grind (arith, common_steps)

pub returns-in_default-clause-done : goal.returns-in_default-clause-done
returns-in_default-clause-done c = grind (arith, common_steps)
