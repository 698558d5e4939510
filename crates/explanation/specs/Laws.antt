-- The laws of explanations.
use Rattle.std.specs.Prelude.{◌≡◌, ◌≢◌, ℕ, List, ◌∷◌, ◌++◌, decimal, Some}
use Rattle.journal.specs.declared.order.Order.{Order}
use Rattle.journal.specs.declared.order.Order.TheVariants.{Any}
use Rattle.remit_records.specs.Report.{text_of}
use Rattle.orders.specs.RunTexts.{IsOrderedRemittance, RunTexts}
use Rattle.explanation.specs.Explained.{HasNoRecord, IsExplanation, IsFoundIn}
use Rattle.explanation.specs.Facts.{FactParts, facts_text}
use Rattle.explanation.specs.Steps.{record_facts}
use Rattle.explanation.specs.declared.finding.FoundClaim.{FoundClaim}
use Rattle.explanation.specs.declared.format.Format.{Format}
use Rattle.explanation.specs.declared.row.Place.{Place}

-- the remittance has a record with these fields, of which the first two are the numbers of the place
pub record HasRecord (bytes : List ℕ) (place : Place) (fields : List (List ℕ)) : Type 0 where
  pub earlier : List (List (List ℕ))
  pub later : List (List (List ℕ))
  pub bytes_are : bytes ≡ text_of (earlier ++ fields ∷ later)
  pub others : List (List ℕ)
  pub numbered : fields ≡ decimal place.provider ∷ decimal place.number ∷ others

-- the last fact of the text is the remittance's record at the place
pub record EndsWithRecord (bytes : List ℕ) (place : Place) (format : Format) (text : List ℕ) : Type 0 where
  pub fields : List (List ℕ)
  pub reported : HasRecord bytes place fields
  pub facts : List FactParts
  pub text_is : text ≡ facts_text format (facts ++ record_facts fields)

-- the explanation of a record ends with its record in the remittance of the same texts in the same order
abbrev pub ExplanationEndsWithItsRecord : Type 0
ExplanationEndsWithItsRecord = (order : Order) (texts : RunTexts) (place : Place) (format : Format) (text bytes : List ℕ) → order ≢ Any
    → IsExplanation order texts place format text → IsOrderedRemittance order texts bytes → EndsWithRecord bytes place format text

-- the record of a claim that is found is not missing in an explanation of texts with the same plan and files
abbrev pub FoundClaimHasRecord : Type 0
FoundClaimHasRecord = (order : Order) (searched texts : RunTexts) (id : List ℕ) (found : FoundClaim) → searched.plan ≡ texts.plan → searched.files ≡ texts.files
    → IsFoundIn searched id (Some found) → ¬ HasNoRecord order texts found.place
