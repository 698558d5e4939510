use Rattle.remit_records.proofs.Pushing.{both-pushed-ok}
use Rattle.remit_records.proofs.record.push_total_front.Goals as goal

pub returns : goal.returns
returns c =
    both-pushed-ok _ _ _ _ _ _ c.in_ok-push_field.ensures
    (both-pushed-ok _ _ _ _ _ _ c.in_ok-push_number.ensures (both-pushed-ok _ _ _ _ _ _ c.in_ok-push_whose.ensures c.push_repeated.ensures))
