use Rattle.std.proofs.Common.{◌≡◌, ap, subst, ◌∙◌, [], ◌∷◌, OnOk}
use Rattle.tables.specs.Plan.{PlanParts}
use Rattle.settlement.specs.Accounts.{Account, account_of, account_year}
use Rattle.run_lists.specs.Charges.{Posts, charge_of}
use Rattle.run_lists.specs.Entries.{account_of_key, entries_of}
use Rattle.run_lists.proofs.closing.accounts.ClosingBalances.charge.Goals as goal

pub returns : goal.returns
returns c =
    let family = c.as_str-family.ensures.value ∙ c.family.ensures in
    let member = c.as_str-member.ensures.value in
    let year = c.account_year-year.ensures ∙ ap (λ (p : PlanParts). account_year p c.args.claim.now) c.plan.ensures.plan in
    let same : account_of_key c.in_ok-key.key ≡ account_of c.args.terms.now.plan c.args.claim.now =
    c.in_ok-key.ensures ∙ (λ i. record { family = family i; member = member i; year = year i }) in
    subst (λ (a : Account). OnOk c.add.result (Posts ((a, charge_of c.args.outcome.now) ∷ []) (entries_of c.args.self.now) (entries_of c.add.new.self))) same c.add.ensures
