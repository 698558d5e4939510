-- For given texts there is at most one remittance in an order of acceptance.
use Rattle.std.proofs.Common.{◌≡◌, List, ℕ, subst}
use Rattle.tables.specs.Plan.{IsPlan, PlanParts}
use Rattle.dtable.specs.PlanFile.{IsPlanText, SpellsOnePlan}
use Rattle.dtable.proofs.ReadPlan as reading
use Rattle.orders.specs.Remittance.{TextsHaveOneOrderedRemittance}
use Rattle.orders.specs.RunTexts.{AreTermsUnder, TextsHaveOneRemittance}

-- a text's plan is a valid plan
plan_of_text : (text : List ℕ) (plan : PlanParts) → IsPlanText text plan → IsPlan plan
plan_of_text text plan h = reading.IsPlan-of _ plan h.spelled

pub one_remittance : SpellsOnePlan → TextsHaveOneOrderedRemittance → TextsHaveOneRemittance
one_remittance plans remittances order texts bytes others asked a b =
    let plan : PlanParts = a.over.plan in
    let same : b.over.plan ≡ plan = plans texts.plan b.over.plan plan b.over.spelled a.over.spelled in
    let theirs : AreTermsUnder plan texts b.parts = subst (λ (p : PlanParts). AreTermsUnder p texts b.parts) same b.over.are_terms in
    remittances order plan texts.files texts.balances texts.cutoff a.parts b.parts bytes others asked (plan_of_text texts.plan plan a.over.spelled)
    a.over.are_terms theirs a.is_remittance b.is_remittance
