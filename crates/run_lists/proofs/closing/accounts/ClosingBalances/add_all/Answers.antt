use Rattle.std.proofs.Common.{◌≡◌, ◌∙◌, subst, map}
use Rattle.std.proofs.lemmas.List.{take_all}
use Rattle.intake_csv.specs.Balances.{opening_of}
use Rattle.intake_csv.specs.declared.entry.OpeningEntry.{OpeningEntry}
use Rattle.run_lists.specs.Charges.{Posts}
use Rattle.run_lists.specs.Entries.{account_of_key, entries_of}
use Rattle.run_lists.proofs.Totals.{posts_none}
use Rattle.run_lists.proofs.Walking.{entries-next}
use Rattle.run_lists.proofs.closing.accounts.ClosingBalances.add_all.Goals as goal

pub loop-entry-init : goal.loop-entry-init
loop-entry-init c = posts_none (entries_of c.args.self.now)

pub loop-entry-preserved : goal.loop-entry-preserved
loop-entry-preserved c =
    let entry : OpeningEntry = c.entry-item.result in
    let family = c.as_str-family.ensures.value in
    let member = c.as_str-member.ensures.value in
    let account : account_of_key c.in_ok-key.key ≡ (opening_of entry).0 = c.in_ok-key.ensures ∙ (λ i. record { family = family i; member = member i; year = entry.year }) in
    entries-next c.args.entries.now c.loop-entry.entry-index entry (account_of_key c.in_ok-key.key, entry.balance) (entries_of c.args.self.now) (entries_of c.loop-entry.self) (entries_of c.add.new.self)
    c.loop-entry-test.true c.entry-item.is (λ i. (account i, entry.balance)) c.loop-entry.invariant c.in_ok-add.ensures

pub returns : goal.returns
returns c =
    subst (λ es. Posts (map opening_of es) (entries_of c.args.self.now) (entries_of c.loop-entry.self)) (take_all c.loop-entry.entry-index c.args.entries.now c.loop-entry-test.false) c.loop-entry.invariant
