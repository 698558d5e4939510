-- The explanation of a record, or of a family, in the remittance of texts, and the search for a claim in them.
use Rattle.std.specs.Prelude.{◌≡◌, ◌≢◌, ℕ, List, Option, Some, None}
use Rattle.std.specs.Borrow.{Bor}
use Rattle.std.specs.Io.KnownBytes.{Keeps}
use Rattle.faults.specs.declared.terms_fault.TermsFault.TheVariants as terms
use Rattle.tables.specs.Plan.{PlanParts}
use Rattle.dtable.specs.PlanFile.{IsPlanText}
use Rattle.journal.specs.declared.order.Order.{Order}
use Rattle.claim_gate.specs.Terms.{TermsParts, text_in, texts_of}
use Rattle.claim_gate.specs.TermsFault.{HasTermsFault}
use Rattle.evaluation.specs.Stop.{SpellsNoPlan, WritesText}
use Rattle.evaluation.specs.declared.stop.ValueStop.TheVariants as value
use Rattle.orders.specs.RunTexts.{AreTermsOfTexts, RunTexts}
use Rattle.orders.specs.declared.stop.Stop.{Stop}
use Rattle.orders.specs.declared.stop.Stop.TheVariants as stop
use Rattle.explanation.specs.Explanation.{IsExplanationOf, IsMissing}
use Rattle.explanation.specs.FamilyExplanation.{HasNoClaim, IsFamilyExplanationOf}
use Rattle.explanation.specs.Finding.{IsFound}
use Rattle.explanation.specs.declared.explaining_family.ExplainFamilyInput.{ExplainFamilyInput}
use Rattle.explanation.specs.declared.explaining.ExplainInput.{ExplainInput}
use Rattle.explanation.specs.declared.explaining.Explained.{Explained}
use Rattle.explanation.specs.declared.explaining.Explained.TheVariants.{Whole, NoRecord}
use Rattle.explanation.specs.declared.finding.FoundClaim.{FoundClaim}
use Rattle.explanation.specs.declared.format.Format.{Format}
use Rattle.explanation.specs.declared.row.Place.{Place}

-- the texts that the references in the input point to
abbrev pub explained_texts : ExplainInput → RunTexts
explained_texts input = record {
  plan = input.plan.now;
  balances = text_in input.balances;
  files = texts_of input.files.now;
  cutoff = input.cutoff;
}

abbrev pub family_texts : ExplainFamilyInput → RunTexts
family_texts input = record {
  plan = input.plan.now;
  balances = text_in input.balances;
  files = texts_of input.files.now;
  cutoff = input.cutoff;
}

-- the texts of a plan and of claims alone
abbrev pub claim_texts : List ℕ → List (Bor (List ℕ)) → RunTexts
claim_texts plan files = record { plan = plan; balances = None; files = texts_of files; cutoff = None }

-- terms of the texts in this order
pub record AreTermsInOrder (order : Order) (texts : RunTexts) (parts : TermsParts) : Type 0 where
  pub over : AreTermsOfTexts texts parts
  pub ordered : parts.order ≡ order

-- the text explains the record at the place in the remittance of the texts in this order
pub record IsExplanation (order : Order) (texts : RunTexts) (place : Place) (format : Format) (text : List ℕ) : Type 0 where
  pub parts : TermsParts
  pub terms : AreTermsInOrder order texts parts
  pub explains : IsExplanationOf parts place format text

-- the files of the texts have no record at the place
pub record HasNoRecord (order : Order) (texts : RunTexts) (place : Place) : Type 0 where
  pub parts : TermsParts
  pub terms : AreTermsInOrder order texts parts
  pub missing : IsMissing parts place

-- what is written: the explanation, or nothing if there is no record at the place
abbrev pub Writes : Order → RunTexts → Place → Format → Option (List ℕ) → Option (List ℕ) → Explained → Type 0
Writes order texts place format old new Whole = WritesText (IsExplanation order texts place format) old new
Writes order texts place format old new NoRecord = HasNoRecord order texts place × Keeps old new

-- the text of an explanation of the texts, or none if there is no record at the place
abbrev pub IsTextOf : Order → RunTexts → Place → Format → Option (List ℕ) → Type 0
IsTextOf order texts place format (Some text) = IsExplanation order texts place format text
IsTextOf order texts place format None = HasNoRecord order texts place

-- the text explains all claims of the family in the remittance of the texts in this order
pub record IsFamilyExplanation (order : Order) (texts : RunTexts) (family : List ℕ) (format : Format) (text : List ℕ) : Type 0 where
  pub parts : TermsParts
  pub terms : AreTermsInOrder order texts parts
  pub explains : IsFamilyExplanationOf parts family format text

-- the files of the texts have no claim of the family
pub record HasNoFamily (order : Order) (texts : RunTexts) (family : List ℕ) : Type 0 where
  pub parts : TermsParts
  pub terms : AreTermsInOrder order texts parts
  pub missing : HasNoClaim parts family

-- what is written: the explanation, or nothing if there is no claim of the family
abbrev pub WritesFamily : Order → RunTexts → List ℕ → Format → Option (List ℕ) → Option (List ℕ) → Explained → Type 0
WritesFamily order texts family format old new Whole = WritesText (IsFamilyExplanation order texts family format) old new
WritesFamily order texts family format old new NoRecord = HasNoFamily order texts family × Keeps old new

-- the text of a family's explanation, or none if there is no claim of the family
abbrev pub IsFamilyTextOf : Order → RunTexts → List ℕ → Format → Option (List ℕ) → Type 0
IsFamilyTextOf order texts family format (Some text) = IsFamilyExplanation order texts family format text
IsFamilyTextOf order texts family format None = HasNoFamily order texts family

-- this is found of the identifier in the files of the texts
pub record IsFoundIn (texts : RunTexts) (id : List ℕ) (found : Option FoundClaim) : Type 0 where
  pub parts : TermsParts
  pub over : AreTermsOfTexts texts parts
  pub found_is : IsFound parts id found

-- the error can occur for these texts: an error about the texts has its cause in them, and the writer can fail and memory run out for any texts
abbrev pub IsExplainReason : RunTexts → Stop → Type 0
IsExplainReason texts (stop.Value (value.Plan fault)) = SpellsNoPlan texts.plan fault
IsExplainReason texts (stop.Value value.NoMemory) = Unit {0}
IsExplainReason texts (stop.Value (value.Write written)) = Unit {0}
IsExplainReason texts (stop.Terms fault) =
    (plan : PlanParts) × IsPlanText texts.plan plan × HasTermsFault plan texts.files texts.balances fault × (fault ≢ terms.OutOfMemory)
IsExplainReason texts _ = ⊥
