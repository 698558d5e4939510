-- The remittance in an order of acceptance: there is at most one for given terms, or given texts.
use Rattle.std.specs.Prelude.{◌≡◌, ◌≢◌, ℕ, List, Option}
use Rattle.settlement.specs.Accounts.{Account}
use Rattle.settlement.specs.Opening.{opening}
use Rattle.tables.specs.Plan.{IsPlan, PlanParts}
use Rattle.intake_csv.specs.Balances.{accounts_of}
use Rattle.journal.specs.Terms.{Terms}
use Rattle.journal.specs.Events.{accepts}
use Rattle.journal.specs.Lawful.{Finished}
use Rattle.journal.specs.declared.event.Event.{Event}
use Rattle.claim_gate.specs.Terms.{AreTermsOf, IsTermsOf, TermsParts}
use Rattle.remit_records.specs.Report.{IsReport}
use Rattle.journal.specs.InOrder.{AreFirstInOrder}
use Rattle.journal.specs.declared.order.Order.{Order}
use Rattle.journal.specs.declared.order.Order.TheVariants.{Any}

-- the bytes are a remittance of these terms in this order: the report of a journal that is finished
-- under the terms, and accepts claims in the order
pub record IsOrderedRemittanceOf (order : Order) (parts : TermsParts) (bytes : List ℕ) : Type 0 where
  pub terms : Terms
  pub are_terms : IsTermsOf parts terms
  pub journal : List Event
  pub finished : Finished terms journal
  pub ordered : AreFirstInOrder order terms.files (accepts journal)
  pub report : IsReport parts journal bytes

-- both are the same terms, though their balances may be stored in different forms
pub record AreAlike (parts other : TermsParts) : Type 0 where
  pub plan : parts.plan ≡ other.plan
  pub files : parts.files ≡ other.files
  pub openings : (account : Account) → opening (accounts_of parts.balances) account ≡ opening (accounts_of other.balances) account
  pub cutoff : parts.cutoff ≡ other.cutoff

-- two remittances of the same terms in the same order are equal
abbrev pub OneOrderedRemittance : Type 0
OneOrderedRemittance = (order : Order) (parts other : TermsParts) (bytes others : List ℕ) → order ≢ Any → IsPlan parts.plan → AreAlike parts other
    → IsOrderedRemittanceOf order parts bytes → IsOrderedRemittanceOf order other others → bytes ≡ others

-- two remittances of the same texts under a plan, in the same order, are equal
abbrev pub TextsHaveOneOrderedRemittance : Type 0
TextsHaveOneOrderedRemittance = (order : Order) (plan : PlanParts) (files : List (List ℕ)) (balances : Option (List ℕ)) (cutoff : Option ℕ) (parts other : TermsParts) (bytes others : List ℕ)
    → order ≢ Any → IsPlan plan → AreTermsOf plan files balances cutoff parts → AreTermsOf plan files balances cutoff other
    → IsOrderedRemittanceOf order parts bytes → IsOrderedRemittanceOf order other others → bytes ≡ others
