use Rattle.remit_records.proofs.Pushing.{both-pushed-ok}
use Rattle.remit_records.proofs.record.push_front_names.Goals as goal

pub returns : goal.returns
returns c =
    both-pushed-ok _ _ _ _ _ _ c.in_ok-push_all.ensures (both-pushed-ok _ _ _ _ _ _ c.in_ok-push_whose.ensures c.push_all-2.ensures)
