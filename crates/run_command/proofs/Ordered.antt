-- The text of a run in the order of the command line.
use Rattle.std.proofs.Common.{◌≢◌, ℕ, List, Option, Result, Ok, Err, OnOk, refl}
use Rattle.journal.specs.declared.order.Order.{Order}
use Rattle.journal.specs.declared.order.Order.TheVariants.{Any, Files, Service}
use Rattle.evaluation.specs.Stop.{WritesText}
use Rattle.orders.specs.Remittance.{IsOrderedRemittanceOf}
use Rattle.claim_gate.specs.Terms.{TermsParts}
use Rattle.orders.specs.RunTexts.{IsOrderedRemittance, RunTexts}
use Rattle.claim_run.specs.RunText.{IsRemittance, IsRemittanceOf}
use Rattle.run_command.specs.Ends.{IsRemittanceIn}

-- a remittance in an order is a remittance
some_remittance_of : (order : Order) (parts : TermsParts) (bytes : List ℕ) → IsOrderedRemittanceOf order parts bytes → IsRemittanceOf parts bytes
some_remittance_of order parts bytes r = record { terms = r.terms; are_terms = r.are_terms; journal = r.journal; finished = r.finished; report = r.report }

some_remittance : (order : Order) (texts : RunTexts) (bytes : List ℕ) → IsOrderedRemittance order texts bytes → IsRemittance texts bytes
some_remittance order texts bytes r = record { parts = r.parts; over = r.over; is_remittance = some_remittance_of order r.parts bytes r.is_remittance }

-- a text that is written in an order meets the definition in this order
written_in : (order : Order) (texts : RunTexts) (old new : Option (List ℕ)) → WritesText (IsOrderedRemittance order texts) old new → WritesText (IsRemittanceIn order texts) old new
written_in order texts old new w = record {
  text = w.text;
  is_text = record { whole = some_remittance order texts w.text w.is_text; ordered = λ asked. w.is_text };
  appended = w.appended;
}

-- a text that is written where no order is asked for meets the definition
written_in_any : (texts : RunTexts) (old new : Option (List ℕ)) → WritesText (IsRemittance texts) old new → WritesText (IsRemittanceIn Any texts) old new
written_in_any texts old new w = record { text = w.text; is_text = record { whole = w.is_text; ordered = λ asked. absurd (asked refl) }; appended = w.appended }

-- a text that is written where an order may be asked for
written_by_order : (order : Order) (texts : RunTexts) (old new : Option (List ℕ)) → WritesText (IsRemittance texts) old new
    → (order ≢ Any → WritesText (IsOrderedRemittance order texts) old new) → WritesText (IsRemittanceIn order texts) old new
written_by_order Any texts old new written ordered = written_in_any texts old new written
written_by_order Files texts old new written ordered = written_in Files texts old new (ordered (λ same. cc same))
written_by_order Service texts old new written ordered = written_in Service texts old new (ordered (λ same. cc same))

pub written_in_order : {X E : Type 0} (order : Order) (texts : RunTexts) (old new : Option (List ℕ)) (answer : Result X E) → OnOk answer (WritesText (IsRemittance texts) old new)
    → OnOk answer (order ≢ Any → WritesText (IsOrderedRemittance order texts) old new) → OnOk answer (WritesText (IsRemittanceIn order texts) old new)
written_in_order order texts old new (Ok done) written ordered = written_by_order order texts old new written ordered
written_in_order order texts old new (Err s) written ordered = tt
