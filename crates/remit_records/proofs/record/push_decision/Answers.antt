use Rattle.remit_records.proofs.Pushing.{both-pushed-ok}
use Rattle.remit_records.proofs.record.push_decision.Goals as goal

pub returns-in_ok-push_amounts-in-Paid : goal.returns-in_ok-push_amounts-in-Paid
returns-in_ok-push_amounts-in-Paid c =
    rw c.in-Paid.is
    (both-pushed-ok _ _ _ _ _ _ c.in_ok-push_status-in-Paid.ensures (both-pushed-ok _ _ _ _ _ _ c.in_ok-push_amounts-in-Paid.ensures c.push_remarks.ensures))

pub returns-in_ok-push_repeated-in-Denied : goal.returns-in_ok-push_repeated-in-Denied
returns-in_ok-push_repeated-in-Denied c =
    rw c.in-Denied.is
    (both-pushed-ok _ _ _ _ _ _ c.in_ok-push_status-in-Denied.ensures (both-pushed-ok _ _ _ _ _ _ c.in_ok-push_repeated-in-Denied.ensures c.push_remarks-in-Denied.ensures))

pub returns-in_ok-push_repeated-in-Pended : goal.returns-in_ok-push_repeated-in-Pended
returns-in_ok-push_repeated-in-Pended c =
    rw c.in-Pended.is
    (both-pushed-ok _ _ _ _ _ _ c.in_ok-push_pended-in-Pended.ensures (both-pushed-ok _ _ _ _ _ _ c.in_ok-push_repeated-in-Pended.ensures c.push_field.ensures))
