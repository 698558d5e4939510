-- The explanation of a record of the remittance in an order of acceptance.
use Rattle.std.specs.Prelude.{◌≡◌, ◌≤◌, ◌-◌, ◌⊎◌, ℕ, List, [], get_or, length, Option, Some, None}
use Rattle.settlement.specs.declared.claim.Claim.{Claim}
use Rattle.intake_csv.specs.declared.rows.Row.{Row}
use Rattle.intake_csv.specs.declared.rows.Row.TheVariants.{Good, Bad}
use Rattle.journal.specs.Terms.{Terms}
use Rattle.claim_gate.specs.Terms.{ForTerms, TermsParts}
use Rattle.explanation.specs.Cases.{IsCase, IsRowAt}
use Rattle.explanation.specs.Facts.{FactParts, facts_text}
use Rattle.explanation.specs.Steps.{decided_facts, late_facts, refused_facts}
use Rattle.explanation.specs.declared.row.Place.{Place}
use Rattle.explanation.specs.declared.format.Format.{Format}
use Rattle.explanation.specs.declared.search.Case.{Case}
use Rattle.explanation.specs.declared.search.Case.TheVariants.{Accepted, Late}

-- the facts of a claim in a case
abbrev pub facts_of_case : TermsParts → ℕ → ℕ → Claim → Case → List FactParts
facts_of_case parts provider number claim (Accepted position before) = decided_facts parts.plan provider number claim position before
facts_of_case parts provider number claim (Late cutoff) = late_facts parts.plan.version provider number claim cutoff

-- these are the facts of a claim, which is accepted or late
pub record IsFactsOfClaim (parts : TermsParts) (T : Terms) (provider number place : ℕ) (claim : Claim) (facts : List FactParts) : Type 0 where
  pub case : Case
  pub is_case : IsCase parts T (record { provider = provider; place = place }) claim case
  pub facts_are : facts ≡ facts_of_case parts provider number claim case

-- these are the facts of a row of the provider's file
abbrev pub IsFactsOf : TermsParts → Terms → ℕ → List FactParts → Row → Type 0
IsFactsOf parts T provider facts (Good number place claim) = IsFactsOfClaim parts T provider number place claim facts
IsFactsOf parts T provider facts (Bad number fault) = facts ≡ refused_facts parts.plan.version provider number (get_or parts.files (provider - 1) []) fault

-- the place of a record, from 1: there is a file with this number
pub record IsPlace (parts : TermsParts) (place : Place) : Type 0 where
  pub least : 1 ≤ place.provider
  pub most : place.provider ≤ length parts.files
  pub counted : 1 ≤ place.number

-- the row of the record at a place; there is none if the file has fewer records
abbrev pub IsRowOf : TermsParts → Place → Option Row → Type 0
IsRowOf parts place found = IsRowAt parts.plan.names (get_or parts.files (place.provider - 1) []) place.number found

-- the text explains the record at the place: it consists of the facts of its row
pub record IsExplanationOf (parts : TermsParts) (place : Place) (format : Format) (text : List ℕ) : Type 0 where
  pub there : IsPlace parts place
  pub row : Row
  pub row_is : IsRowOf parts place (Some row)
  pub facts : List FactParts
  pub facts_are : ForTerms parts (λ T. IsFactsOf parts T place.provider facts row)
  pub text_is : text ≡ facts_text format facts

-- there is no record at the place
abbrev pub IsMissing : TermsParts → Place → Type 0
IsMissing parts place = (¬ IsPlace parts place) ⊎ IsRowOf parts place None

-- the text of an explanation, or none if there is no record at the place
abbrev pub IsTextOver : TermsParts → Place → Format → Option (List ℕ) → Type 0
IsTextOver parts place format (Some text) = IsExplanationOf parts place format text
IsTextOver parts place format None = IsMissing parts place
