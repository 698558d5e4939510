use Rattle.std.proofs.Common.{◌≡◌, sym, subst, ap, ◌∙◌, map}
use Rattle.settlement.specs.declared.account.Balance.{Balance}
use Rattle.run_lists.specs.Charges.{Posts, added}
use Rattle.run_lists.specs.Entries.{entry_of_key, key_cmp}
use Rattle.std.specs.BTreeMap.{insert_entry}
use Rattle.run_lists.proofs.Adding.{one, posted}
use Rattle.run_lists.proofs.closing.accounts.ClosingBalances.add.Goals as goal

pub returns : goal.returns
returns c =
    let before = c.balance_of.result in
    let old = c.args.self.now.accounts.entries in
    let sum : c.in-Some.after ≡ added before c.args.more = rw c.in-Some.is at c.sum_of.ensures in
    let placed : c.insert.new.self.entries ≡ insert_entry key_cmp old c.args.key (added before c.args.more) =
    c.in_ok-insert.ensures.entries ∙ ap (λ (b : Balance). insert_entry key_cmp old c.args.key b) sum in
    subst (λ es. Posts (one c.args.key before c.args.more) (map entry_of_key old) (map entry_of_key es)) (sym placed)
    (posted c.args.key before c.args.more old c.insert.ensures.was_ordered c.balance_of.ensures)
