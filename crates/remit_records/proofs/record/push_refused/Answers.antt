use Rattle.remit_records.proofs.Pushing.{both-pushed-ok}
use Rattle.remit_records.proofs.record.push_refused.Goals as goal

pub returns : goal.returns
returns c = both-pushed-ok _ _ _ _ _ _ (rw (c.as_bytes.ensures.value, c.in_ok-fault_text.ensures) at c.in_ok-push_status.ensures) c.push_repeated.ensures
