-- The explanation of all claims of a family, in an order of acceptance.
use Rattle.std.specs.Prelude.{◌≡◌, ◌≢◌, ◌≤◌, ℕ, Bool, true, false, List, [], flat_map, length, Option, Some, None}
use Rattle.std.specs.List.{AllZip}
use Rattle.std.specs.Str.{bytes_eq}
use Rattle.settlement.specs.Accounts.{family_of}
use Rattle.settlement.specs.declared.claim.Claim.{Claim}
use Rattle.journal.specs.Events.{Filed, claim_filed}
use Rattle.journal.specs.InOrder.{AreFirstInOrder, filed_count}
use Rattle.journal.specs.Terms.{Terms, claims_of}
use Rattle.claim_gate.specs.Terms.{ForTerms, TermsParts}
use Rattle.explanation.specs.Cases.{IsNumberOf}
use Rattle.explanation.specs.Explanation.{IsFactsOfClaim}
use Rattle.explanation.specs.Facts.{FactParts, facts_text}
use Rattle.explanation.specs.declared.format.Format.{Format}

-- the facts of the record of a claim
pub record IsFactsOfRecord (parts : TermsParts) (T : Terms) (filed : Filed) (claim : Claim) (facts : List FactParts) : Type 0 where
  pub number : ℕ
  pub number_is : IsNumberOf parts T filed number
  pub facts_are : IsFactsOfClaim parts T filed.provider number filed.place claim facts

-- the facts of a claim of the family; there are none of another family's claim
abbrev pub IsShareOf : TermsParts → Terms → Filed → Claim → List FactParts → Bool → Type 0
IsShareOf parts T filed claim facts true = IsFactsOfRecord parts T filed claim facts
IsShareOf parts T filed claim facts false = facts ≡ []

-- these are the facts of a claim, if it is one of the family
abbrev pub IsShare : TermsParts → Terms → List ℕ → Filed → List FactParts → Type 0
IsShare parts T family filed facts = (claim : Claim) → claim_filed T filed ≡ Some claim → IsShareOf parts T filed claim facts (bytes_eq (family_of claim) family)

-- these are the facts of all claims of the family, one claim after another in the order
pub record AreFamilyFacts (parts : TermsParts) (T : Terms) (family : List ℕ) (facts : List FactParts) : Type 0 where
  pub claims : List Filed
  pub in_order : AreFirstInOrder parts.order T.files claims
  pub whole : (provider : ℕ) → 1 ≤ provider → provider ≤ length parts.files → filed_count provider claims ≡ length (claims_of T provider)
  pub shares : List (List FactParts)
  pub each : AllZip (IsShare parts T family) claims shares
  pub facts_are : facts ≡ flat_map (λ share. share) shares

-- no file has a claim of the family
abbrev pub HasNoClaim : TermsParts → List ℕ → Type 0
HasNoClaim parts family = ForTerms parts (λ T. (filed : Filed) (claim : Claim) → claim_filed T filed ≡ Some claim → family_of claim ≢ family)

-- the text explains all claims of the family, and there is at least one
pub record IsFamilyExplanationOf (parts : TermsParts) (family : List ℕ) (format : Format) (text : List ℕ) : Type 0 where
  pub facts : List FactParts
  pub facts_are : ForTerms parts (λ T. AreFamilyFacts parts T family facts)
  pub some : facts ≢ []
  pub text_is : text ≡ facts_text format facts

-- the text of an explanation, or none if there is no claim of the family
abbrev pub IsFamilyTextOver : TermsParts → List ℕ → Format → Option (List ℕ) → Type 0
IsFamilyTextOver parts family format (Some text) = IsFamilyExplanationOf parts family format text
IsFamilyTextOver parts family format None = HasNoClaim parts family
