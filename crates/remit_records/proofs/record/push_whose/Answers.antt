use Rattle.remit_records.proofs.Pushing.{both-pushed-ok}
use Rattle.remit_records.proofs.record.push_whose.Goals as goal

pub returns : goal.returns
returns c =
    both-pushed-ok _ _ _ _ _ _ c.in_ok-push_field.ensures
    (both-pushed-ok _ _ _ _ _ _ (rw c.has_families.ensures at c.in_ok-push_family.ensures) (both-pushed-ok _ _ _ _ _ _ c.in_ok-push_field-2.ensures (rw c.has_years.ensures at c.push_year.ensures)))
