use Rattle.remit_records.proofs.Pushing.{both-pushed-ok}
use Rattle.run_lists.proofs.closing.text.push_entry.Goals as goal

pub returns-clause-fields : goal.returns-clause-fields
returns-clause-fields c =
    both-pushed-ok _ _ _ _ _ _ (rw (c.as_bytes.ensures.value, c.as_bytes-2.ensures.value, c.year_text-year.ensures) at c.in_ok-push_account.ensures)
    (both-pushed-ok _ _ _ _ _ _ c.in_ok-push_money.ensures (both-pushed-ok _ _ _ _ _ _ c.in_ok-push_money-2.ensures c.push_money-3.ensures))
