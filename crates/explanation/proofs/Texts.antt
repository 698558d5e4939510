-- The text of an explanation, and the errors.
use Rattle.std.proofs.Common.{◌≡◌, ◌≢◌, ℕ, List, Option, Some, None, sym, subst}
use Rattle.tables.specs.Plan.{PlanParts}
use Rattle.dtable.specs.PlanFile.{IsPlanText}
use Rattle.faults.specs.declared.plan_fault.PlanCause.TheVariants as cause
use Rattle.faults.specs.declared.plan_fault.PlanFault.{PlanFault}
use Rattle.faults.specs.declared.terms_fault.TermsFault.{TermsFault}
use Rattle.faults.specs.declared.terms_fault.TermsFault.TheVariants as terms
use Rattle.journal.specs.declared.order.Order.{Order}
use Rattle.claim_gate.specs.Terms.{TermsParts}
use Rattle.claim_gate.specs.TermsFault.{HasTermsFault}
use Rattle.evaluation.specs.declared.stop.ValueStop.TheVariants as value
use Rattle.orders.specs.RunTexts.{AreTermsUnder, RunTexts}
use Rattle.orders.specs.Stop.{IsStopOfPlan, IsStopOfTerms}
use Rattle.orders.specs.declared.stop.Stop.{Stop}
use Rattle.orders.specs.declared.stop.Stop.TheVariants as stop
use Rattle.explanation.specs.Asked.{IsTargetText, IsTargetTextOver}
use Rattle.explanation.specs.declared.asked.Target.{Target}
use Rattle.explanation.specs.declared.asked.Target.TheVariants.{Record, Family}
use Rattle.explanation.specs.Explained.{IsExplainReason, IsFamilyTextOf, IsFoundIn, IsTextOf}
use Rattle.explanation.specs.Explanation.{IsTextOver}
use Rattle.explanation.specs.FamilyExplanation.{IsFamilyTextOver}
use Rattle.explanation.specs.Finding.{IsFound}
use Rattle.explanation.specs.declared.finding.FoundClaim.{FoundClaim}
use Rattle.explanation.specs.declared.row.Place.{Place}
use Rattle.explanation.specs.declared.format.Format.{Format}

-- a plan's text that denotes no plan is a reason for the error
pub reason_of_plan : (texts : RunTexts) (fault : PlanFault) (s : Stop) → (fault.cause ≢ cause.OutOfMemory → (plan : PlanParts) → ¬ IsPlanText texts.plan plan)
    → IsStopOfPlan fault s → IsExplainReason texts s
reason_of_plan texts fault (stop.Value (value.Plan same)) none made =
    let P : PlanFault → Type 0 = λ f. f.cause ≢ cause.OutOfMemory in
    (subst P (sym made.0) made.1, none made.1)
reason_of_plan texts fault (stop.Value value.NoMemory) none made = tt
reason_of_plan texts fault _ none made = absurd made

-- texts that form no terms under the plan are a reason for the error
pub reason_of_terms : (texts : RunTexts) (plan : PlanParts) (fault : TermsFault) (s : Stop) → IsPlanText texts.plan plan → HasTermsFault plan texts.files texts.balances fault
    → IsStopOfTerms fault s → IsExplainReason texts s
reason_of_terms texts plan fault (stop.Terms same) spelled has made =
    let P : TermsFault → Type 0 = λ f. f ≢ terms.OutOfMemory in
    let Q : TermsFault → Type 0 = HasTermsFault plan texts.files texts.balances in
    (plan, spelled, subst Q (sym made.0) has, subst P (sym made.0) made.1)
reason_of_terms texts plan fault (stop.Value value.NoMemory) spelled has made = tt
reason_of_terms texts plan fault _ spelled has made = absurd made

-- a lack of memory is a reason for any texts
pub reason_of_memory : (texts : RunTexts) (s : Stop) → s ≡ stop.Value value.NoMemory → IsExplainReason texts s
reason_of_memory texts s memory = subst (IsExplainReason texts) (sym memory) tt

-- an explanation over terms of the texts is one of the texts
text_of_texts : (order : Order) (texts : RunTexts) (plan : PlanParts) (parts : TermsParts) (place : Place) (format : Format) (text : Option (List ℕ))
    → IsPlanText texts.plan plan → AreTermsUnder plan texts parts → parts.order ≡ order → IsTextOver parts place format text → IsTextOf order texts place format text
text_of_texts order texts plan parts place format (Some text) spelled are ordered is = record {
  parts = parts;
  terms = record { over = record { plan = plan; spelled = spelled; are_terms = are }; ordered = ordered };
  explains = is;
}
text_of_texts order texts plan parts place format None spelled are ordered is = record {
  parts = parts;
  terms = record { over = record { plan = plan; spelled = spelled; are_terms = are }; ordered = ordered };
  missing = is;
}

-- the explanation of a family over terms of the texts is one of the texts
family_text_of_texts : (order : Order) (texts : RunTexts) (plan : PlanParts) (parts : TermsParts) (family : List ℕ) (format : Format) (text : Option (List ℕ))
    → IsPlanText texts.plan plan → AreTermsUnder plan texts parts → parts.order ≡ order → IsFamilyTextOver parts family format text → IsFamilyTextOf order texts family format text
family_text_of_texts order texts plan parts family format (Some text) spelled are ordered is = record {
  parts = parts;
  terms = record { over = record { plan = plan; spelled = spelled; are_terms = are }; ordered = ordered };
  explains = is;
}
family_text_of_texts order texts plan parts family format None spelled are ordered is = record {
  parts = parts;
  terms = record { over = record { plan = plan; spelled = spelled; are_terms = are }; ordered = ordered };
  missing = is;
}

-- what is found over terms of the texts is found in the texts
pub found_in_texts : (texts : RunTexts) (plan : PlanParts) (parts : TermsParts) (id : List ℕ) (found : Option FoundClaim) → IsPlanText texts.plan plan → AreTermsUnder plan texts parts → IsFound parts id found
    → IsFoundIn texts id found
found_in_texts texts plan parts id found spelled are is = record { parts = parts; over = record { plan = plan; spelled = spelled; are_terms = are }; found_is = is }

-- the explanation of a target over terms of the texts is one of the texts
pub target_text_of_texts : (order : Order) (texts : RunTexts) (plan : PlanParts) (parts : TermsParts) (target : Target) (format : Format) (text : Option (List ℕ)) → IsPlanText texts.plan plan
    → AreTermsUnder plan texts parts → parts.order ≡ order → IsTargetTextOver parts target format text → IsTargetText order texts target format text
target_text_of_texts order texts plan parts (Record place) format text spelled are ordered is = text_of_texts order texts plan parts place format text spelled are ordered is
target_text_of_texts order texts plan parts (Family family) format text spelled are ordered is = family_text_of_texts order texts plan parts family.now format text spelled are ordered is
