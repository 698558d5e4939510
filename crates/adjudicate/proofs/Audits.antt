-- The result of an audit, from the remittance of the terms.
use Rattle.std.proofs.Common.{◌≡◌, ◌≢◌, ℕ, List, [], ◌∷◌, ◌++◌, map, Some, Result, Ok, Err, IfErr, IfOk, refl, sym, ap, subst, ◌∙◌}
use Rattle.std.specs.Io.KnownBytes.{Appends}
use Rattle.std.specs.Global.{Vec}
use Rattle.std.specs.List.{AllZip}
use Rattle.tables.specs.Plan.{PlanParts}
use Rattle.tables.specs.declared.table.InputData.{InputData}
use Rattle.dtable.specs.PlanFile.{IsPlanText}
use Rattle.faults.specs.declared.plan_fault.PlanCause.TheVariants as cause
use Rattle.faults.specs.declared.plan_fault.PlanFault.{PlanFault}
use Rattle.faults.specs.declared.terms_fault.TermsFault.{TermsFault}
use Rattle.faults.specs.declared.terms_fault.TermsFault.TheVariants as terms
use Rattle.intake_csv.specs.Balances.{accounts_of}
use Rattle.intake_csv.specs.Rows.{AreRowsOf, claims_among}
use Rattle.intake_csv.specs.declared.rows.Row.{Row}
use Rattle.journal.specs.Events.{accepts}
use Rattle.journal.specs.InOrder.{AreFirstInOrder}
use Rattle.journal.specs.Lawful.{Finished}
use Rattle.journal.specs.Terms.{Terms}
use Rattle.journal.specs.declared.event.Event.{Event}
use Rattle.journal.specs.declared.order.Order.{Order}
use Rattle.journal.specs.declared.order.Order.TheVariants.{Any}
use Rattle.claim_gate.specs.Terms.{AreClaimsOf, ForTerms, IsTermsOf, TermsParts}
use Rattle.claim_gate.specs.TermsFault.{HasTermsFault}
use Rattle.remit_records.specs.Report.{IsReport}
use Rattle.remit_records.specs.Writing.{WritesReport}
use Rattle.orders.specs.Remittance.{IsOrderedRemittanceOf}
use Rattle.evaluation.specs.declared.stop.ValueStop.TheVariants as value
use Rattle.orders.specs.RunTexts.{AreTermsOfTexts, AreTermsUnder, IsOrderedRemittance, RunTexts, TextsHaveOneRemittance}
use Rattle.orders.specs.Stop.{IsStopOfPlan, IsStopOfTerms}
use Rattle.orders.specs.declared.stop.Stop.{Stop}
use Rattle.orders.specs.declared.stop.Stop.TheVariants as stop
use Rattle.adjudicate.specs.Audits.{IsAuditOver, IsAuditReason, HasDifference}
use Rattle.adjudicate.specs.declared.audit.difference.Difference.{Difference}
use Rattle.adjudicate.specs.declared.audit.Audit.{Audit}
use Rattle.adjudicate.specs.declared.audit.Audit.TheVariants.{Same, Differs}

-- the claims of files are the claims among their rows
claims_of_rows : (names : List InputData) (texts : List (List ℕ)) (files : List (List Row)) → AllZip (AreRowsOf names) texts files
    → AllZip (AreClaimsOf names) texts (map claims_among files)
claims_of_rows names [] [] h = tt
claims_of_rows names [] (rows ∷ files) h = absurd h
claims_of_rows names (text ∷ texts) [] h = absurd h
claims_of_rows names (text ∷ texts) (rows ∷ files) h = (record { rows = rows; are_rows = h.0; claims_are = refl }, claims_of_rows names texts files h.1)

-- bytes that differ are not the same
differs_not_same : (difference : Difference) (due : Vec ℕ) → Differs difference due ≢ Same
differs_not_same difference due = λ same. cc

-- the report of a finished journal, which accepts in the order, is a remittance of the terms in the order
ordered_of : (order : Order) (parts : TermsParts) (J : List Event) (bytes : List ℕ) → ForTerms parts (λ T. Finished T J)
    → ForTerms parts (λ T. AreFirstInOrder order T.files (accepts J)) → IsReport parts J bytes → IsOrderedRemittanceOf order parts bytes
ordered_of order parts J bytes finished ordered report =
    let T : Terms = record { plan = parts.plan; files = map claims_among report.files; balances = accounts_of parts.balances; cutoff = parts.cutoff } in
    let are : IsTermsOf parts T = record {
      plan = refl;
      files = claims_of_rows parts.plan.names parts.files report.files report.are_rows;
      openings = λ account. refl;
      cutoff = refl;
    } in
    record { terms = T; are_terms = are; journal = J; finished = finished T are; ordered = ordered T are; report = report }

-- bytes that are appended to none are all that a writer has
all_appended : (old new bytes : List ℕ) → old ≡ [] → Appends (Some old) (Some new) bytes → new ≡ bytes
all_appended old new bytes none appended = appended ∙ ap (λ xs. xs ++ bytes) none

-- a report that is written into an empty memory is the remittance
pub written_remittance : (order : Order) (parts : TermsParts) (J : List Event) (old new : List ℕ) → old ≡ [] → ForTerms parts (λ T. Finished T J)
    → ForTerms parts (λ T. AreFirstInOrder order T.files (accepts J)) → WritesReport parts J (Some old) (Some new) → IsOrderedRemittanceOf order parts new
written_remittance order parts J old new none finished ordered w =
    subst (IsOrderedRemittanceOf order parts) (sym (all_appended old new w.bytes none w.appended)) (ordered_of order parts J w.bytes finished ordered w.is_report)

module _ (order : Order) (texts : RunTexts) (plan : PlanParts) (spelled : IsPlanText texts.plan plan) (parts : TermsParts) (are : AreTermsUnder plan texts parts) where
  -- a remittance of the terms of the texts is one of the texts
  over : AreTermsOfTexts texts parts
  over = record { plan = plan; spelled = spelled; are_terms = are }

  of_texts : (bytes : List ℕ) → IsOrderedRemittanceOf order parts bytes → IsOrderedRemittance order texts bytes
  of_texts bytes is = record { parts = parts; over = over; is_remittance = is }

  -- other bytes are not
  only : TextsHaveOneRemittance → order ≢ Any → (bytes other : List ℕ) → IsOrderedRemittanceOf order parts bytes → other ≢ bytes → ¬ IsOrderedRemittance order texts other
  only one asked bytes other is differ also = differ (sym (one order texts bytes other asked (of_texts bytes is) also))

  module _ (given : List ℕ) where
    same_of : (audit : Audit) → IsAuditOver order parts given audit → audit ≡ Same → IsOrderedRemittance order texts given
    same_of Same is same = of_texts given is
    same_of (Differs difference due) is same = absurd (differs_not_same difference due same)

    differs_of : TextsHaveOneRemittance → order ≢ Any → (audit : Audit) → IsAuditOver order parts given audit → audit ≢ Same → ¬ IsOrderedRemittance order texts given
    differs_of one asked Same is other = absurd (other refl)
    differs_of one asked (Differs difference due) is other = only one asked due.items given is.0 is.1

    difference_of : (audit : Audit) → IsAuditOver order parts given audit → HasDifference order texts given audit
    difference_of Same is = tt
    difference_of (Differs difference due) is = (of_texts due.items is.0, is.2)

    pub same_of_result : {E : Type 0} (result : Result Audit E) → IfOk result (IsAuditOver order parts given) → IfOk result (λ audit. audit ≡ Same → IsOrderedRemittance order texts given)
    same_of_result (Ok audit) is = same_of audit is
    same_of_result (Err e) is = tt

    pub differs_of_result : TextsHaveOneRemittance → order ≢ Any → {E : Type 0} (result : Result Audit E) → IfOk result (IsAuditOver order parts given)
        → IfOk result (λ audit. audit ≢ Same → ¬ IsOrderedRemittance order texts given)
    differs_of_result one asked (Ok audit) is = differs_of one asked audit is
    differs_of_result one asked (Err e) is = tt

    pub difference_of_result : {E : Type 0} (result : Result Audit E) → IfOk result (IsAuditOver order parts given) → IfOk result (HasDifference order texts given)
    difference_of_result (Ok audit) is = difference_of audit is
    difference_of_result (Err e) is = tt

-- a remittance of the terms of the texts is one of the texts, in the order that equals theirs
pub remittance_of_result : (order other : Order) (texts : RunTexts) (plan : PlanParts) → IsPlanText texts.plan plan → (parts : TermsParts) → AreTermsUnder plan texts parts → other ≡ order
    → {E : Type 0} (result : Result (Vec ℕ) E) → IfOk result (λ due. IsOrderedRemittanceOf other parts due.items) → IfOk result (λ due. IsOrderedRemittance order texts due.items)
remittance_of_result order other texts plan spelled parts are same (Ok due) is =
    of_texts order texts plan spelled parts are due.items (subst (λ o. IsOrderedRemittanceOf o parts due.items) same is)
remittance_of_result order other texts plan spelled parts are same (Err e) is = tt

-- an audit in an order is one in the order that equals it
pub audit_in_order : (order other : Order) (parts : TermsParts) (given : List ℕ) {E : Type 0} (result : Result Audit E) → other ≡ order → IfOk result (IsAuditOver other parts given)
    → IfOk result (IsAuditOver order parts given)
audit_in_order order other parts given result same is = subst (λ o. IfOk result (IsAuditOver o parts given)) same is

-- a plan's text that denotes no plan is a reason for the error
pub reason_of_plan : (texts : RunTexts) (fault : PlanFault) (s : Stop) → (fault.cause ≢ cause.OutOfMemory → (plan : PlanParts) → ¬ IsPlanText texts.plan plan)
    → IsStopOfPlan fault s → IsAuditReason texts s
reason_of_plan texts fault (stop.Value (value.Plan same)) none made =
    let P : PlanFault → Type 0 = λ f. f.cause ≢ cause.OutOfMemory in
    (subst P (sym made.0) made.1, none made.1)
reason_of_plan texts fault (stop.Value value.NoMemory) none made = tt
reason_of_plan texts fault _ none made = absurd made

-- texts that form no terms under the plan are a reason for the error
pub reason_of_terms : (texts : RunTexts) (plan : PlanParts) (fault : TermsFault) (s : Stop) → IsPlanText texts.plan plan → HasTermsFault plan texts.files texts.balances fault
    → IsStopOfTerms fault s → IsAuditReason texts s
reason_of_terms texts plan fault (stop.Terms same) spelled has made =
    let P : TermsFault → Type 0 = λ f. f ≢ terms.OutOfMemory in
    let Q : TermsFault → Type 0 = HasTermsFault plan texts.files texts.balances in
    (plan, spelled, subst Q (sym made.0) has, subst P (sym made.0) made.1)
reason_of_terms texts plan fault (stop.Value value.NoMemory) spelled has made = tt
reason_of_terms texts plan fault _ spelled has made = absurd made

-- a lack of memory is a reason for any texts
pub reason_of_memory : {X : Type 0} (texts : RunTexts) (result : Result X Stop) → IfErr result (λ s. s ≡ stop.Value value.NoMemory) → IfErr result (IsAuditReason texts)
reason_of_memory texts (Ok x) memory = tt
reason_of_memory texts (Err s) memory = subst (IsAuditReason texts) (sym memory) tt
