-- The remittance of a run in an order of acceptance.
use Rattle.std.proofs.Common.{◌≡◌, ◌≢◌, ℕ, List, Option, Result, OnOk, subst}
use Rattle.std.proofs.lemmas.Result.{on_ok_weaker}
use Rattle.journal.specs.declared.event.Event.{Event}
use Rattle.journal.specs.declared.order.Order.{Order}
use Rattle.journal.specs.declared.order.Order.TheVariants.{Any}
use Rattle.journal.specs.Events.{accepts}
use Rattle.journal.specs.InOrder.{AreFirstInOrder}
use Rattle.claim_gate.specs.Terms.{ForTerms, IsFinishedOver, TermsParts}
use Rattle.remit_records.specs.Writing.{WritesReport}
use Rattle.orders.specs.Remittance.{IsOrderedRemittanceOf}
use Rattle.orders.specs.RunTexts.{AreTermsOfTexts, IsOrderedRemittance, RunTexts}
use Rattle.evaluation.specs.Stop.{WritesText}
use Rattle.claim_run.proofs.Remittances.{writes_remittance}

-- the claims that the journal accepts are the first ones in the order of the terms
abbrev pub IsAcceptedInOrder : TermsParts → List Event → Type 0
IsAcceptedInOrder parts J = parts.order ≢ Any → ForTerms parts (λ T. AreFirstInOrder parts.order T.files (accepts J))

-- the report of a finished journal that accepts in the order of the terms is a remittance in this order
pub writes_in_order : (parts : TermsParts) (J : List Event) → IsFinishedOver parts J → IsAcceptedInOrder parts J → (old new : Option (List ℕ))
    → WritesReport parts J old new → parts.order ≢ Any → WritesText (IsOrderedRemittanceOf parts.order parts) old new
writes_in_order parts J finished ordered old new w asked =
    let T = (writes_remittance parts J finished old new w).is_text.terms in
    let are = (writes_remittance parts J finished old new w).is_text.are_terms in
    record {
      text = w.bytes;
      is_text = record { terms = T; are_terms = are; journal = J; finished = finished T are; ordered = ordered asked T are; report = w.is_report };
      appended = w.appended;
    }

-- a remittance of the terms of the texts is one of the texts
pub ordered_over : (texts : RunTexts) (parts : TermsParts) (order : Order) → AreTermsOfTexts texts parts → parts.order ≡ order → (old new : Option (List ℕ))
    → {X E : Type 0} (r : Result X E) → OnOk r (parts.order ≢ Any → WritesText (IsOrderedRemittanceOf parts.order parts) old new)
    → OnOk r (order ≢ Any → WritesText (IsOrderedRemittance order texts) old new)
ordered_over texts parts order over same old new r h =
    on_ok_weaker r (λ writes asked.
    let w = subst (λ (o : Order). o ≢ Any → WritesText (IsOrderedRemittanceOf o parts) old new) same writes asked in
    record { text = w.text; is_text = record { parts = parts; over = over; is_remittance = w.is_text }; appended = w.appended }) h
