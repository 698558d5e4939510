use Rattle.remit_records.proofs.Pushing.{both-pushed-ok}
use Rattle.run_lists.proofs.closing.text.push_account.Goals as goal

pub returns : goal.returns
returns c =
    both-pushed-ok _ _ _ _ _ _ (rw c.has_families.ensures at c.in_ok-push_family.ensures) (both-pushed-ok _ _ _ _ _ _ c.in_ok-push_field.ensures (rw c.has_years.ensures at c.push_year.ensures))
