-- The text of an explanation: of a record, or of all claims of a family.
use Rattle.std.specs.Prelude.{ℕ, List, Option}
use Rattle.journal.specs.declared.order.Order.{Order}
use Rattle.claim_gate.specs.Terms.{TermsParts, text_in, texts_of}
use Rattle.orders.specs.RunTexts.{RunTexts}
use Rattle.explanation.specs.Explained.{IsFamilyTextOf, IsTextOf}
use Rattle.explanation.specs.Explanation.{IsTextOver}
use Rattle.explanation.specs.FamilyExplanation.{IsFamilyTextOver}
use Rattle.explanation.specs.declared.asked.Asked.{Asked}
use Rattle.explanation.specs.declared.asked.Target.{Target}
use Rattle.explanation.specs.declared.asked.Target.TheVariants.{Record, Family}
use Rattle.explanation.specs.declared.format.Format.{Format}

-- the texts that are given for an explanation
abbrev pub asked_texts : Asked → RunTexts
asked_texts asked = record {
  plan = asked.plan.now;
  balances = text_in asked.balances;
  files = texts_of asked.files.now;
  cutoff = asked.cutoff;
}

-- the text explains the target under these terms; there is none if the files do not have it
abbrev pub IsTargetTextOver : TermsParts → Target → Format → Option (List ℕ) → Type 0
IsTargetTextOver parts (Record place) format text = IsTextOver parts place format text
IsTargetTextOver parts (Family family) format text = IsFamilyTextOver parts family.now format text

-- the text explains the target in the remittance of the texts in this order; there is none if the files do not have it
abbrev pub IsTargetText : Order → RunTexts → Target → Format → Option (List ℕ) → Type 0
IsTargetText order texts (Record place) format text = IsTextOf order texts place format text
IsTargetText order texts (Family family) format text = IsFamilyTextOf order texts family.now format text
