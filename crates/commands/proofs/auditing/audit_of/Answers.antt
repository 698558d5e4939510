use Rattle.std.proofs.Common.{arith}
use Rattle.std.proofs.lemmas.Grind.{common_steps}
use Rattle.commands.proofs.Statuses.{audit_done, audit_refused, unread_audit_refused, unread_not_done}
use Rattle.commands.proofs.auditing.audit_of.Goals as goal

pub returns-in-Err-clause-done : goal.returns-in-Err-clause-done
returns-in-Err-clause-done g c = λ is_done. absurd (unread_not_done _ _ c.in-Err.ensures.failed is_done)

pub returns-in-Err-clause-refused : goal.returns-in-Err-clause-refused
returns-in-Err-clause-refused g c = unread_audit_refused _ _ _ c.in-Err.ensures.failed

pub returns-in-Ok-remittance_of-clause-done : goal.returns-in-Ok-remittance_of-clause-done
returns-in-Ok-remittance_of-clause-done g c =
    audit_done _ _ c.in-Ok.texts c.in-Ok-remittance_of.remittance.items c.audit_texts.result c.in-Ok.ensures.named
    c.in-Ok-remittance_of.ensures.named (rw c.as_slice.ensures.value at c.audit_texts.ensures.done)

pub returns-in-Ok-remittance_of-clause-refused : goal.returns-in-Ok-remittance_of-clause-refused
returns-in-Ok-remittance_of-clause-refused g c =
    audit_refused _ _ c.in-Ok.texts c.in-Ok-remittance_of.remittance.items c.audit_texts.result c.in-Ok.ensures.named
    c.in-Ok-remittance_of.ensures.named (rw c.as_slice.ensures.value at c.audit_texts.ensures.refused)

pub returns-clause-refused : goal.returns-clause-refused
returns-clause-refused c = grind (arith, common_steps)

pub returns-clause-done : goal.returns-clause-done
returns-clause-done c = grind (arith, common_steps)
