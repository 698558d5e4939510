use Rattle.remit_records.proofs.Pushing.{both-pushed-ok}
use Rattle.remit_records.proofs.record.push_header.Goals as goal

pub returns : goal.returns
returns c =
    both-pushed-ok _ _ _ _ _ _ c.in_ok-push_front_names.ensures (both-pushed-ok _ _ _ _ _ _ c.in_ok-push_names.ensures c.push_field.ensures)
