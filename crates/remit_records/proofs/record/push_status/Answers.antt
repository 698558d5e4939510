use Rattle.remit_records.proofs.Pushing.{both-pushed-ok}
use Rattle.remit_records.proofs.record.push_status.Goals as goal

pub returns : goal.returns
returns c = both-pushed-ok _ _ _ _ _ _ c.in_ok-push_field.ensures c.push_field-2.ensures
