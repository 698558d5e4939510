-- The texts that a command reads for a run: their terms, and their remittance in an order of acceptance.
use Rattle.std.specs.Prelude.{◌≡◌, ◌≢◌, ℕ, List, Option}
use Rattle.tables.specs.Plan.{PlanParts}
use Rattle.dtable.specs.PlanFile.{IsPlanText}
use Rattle.journal.specs.declared.order.Order.{Order}
use Rattle.journal.specs.declared.order.Order.TheVariants.{Any}
use Rattle.claim_gate.specs.Terms.{AreTermsOf, TermsParts}
use Rattle.orders.specs.Remittance.{IsOrderedRemittanceOf}

-- the input that determines a remittance: the text of the plan, the text of the balances, if there is one, the texts of the providers'
-- files, and the greatest number of accepted claims, if it is limited
pub record RunTexts : Type 0 where
  pub plan : List ℕ
  pub balances : Option (List ℕ)
  pub files : List (List ℕ)
  pub cutoff : Option ℕ

-- these are the terms of the texts under this plan
abbrev pub AreTermsUnder : PlanParts → RunTexts → TermsParts → Type 0
AreTermsUnder plan texts parts = AreTermsOf plan texts.files texts.balances texts.cutoff parts

-- these are the terms of the texts under the plan that the plan's text denotes
pub record AreTermsOfTexts (texts : RunTexts) (parts : TermsParts) : Type 0 where
  pub plan : PlanParts
  pub spelled : IsPlanText texts.plan plan
  pub are_terms : AreTermsUnder plan texts parts

-- the bytes are a remittance of the texts in this order of acceptance
pub record IsOrderedRemittance (order : Order) (texts : RunTexts) (bytes : List ℕ) : Type 0 where
  pub parts : TermsParts
  pub over : AreTermsOfTexts texts parts
  pub is_remittance : IsOrderedRemittanceOf order parts bytes

-- two remittances of the same texts in the same order are equal
abbrev pub TextsHaveOneRemittance : Type 0
TextsHaveOneRemittance = (order : Order) (texts : RunTexts) (bytes others : List ℕ) → order ≢ Any
    → IsOrderedRemittance order texts bytes → IsOrderedRemittance order texts others → bytes ≡ others
