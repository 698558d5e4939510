-- The facts of an explanation, and their texts.
use Rattle.std.specs.Prelude.{ℕ, List, [], ◌∷◌, ◌++◌, codes, flat_map, Option, Some, None}
use Rattle.std.specs.Str.Lossy.{utf8_lossy}
use Rattle.feel_tests.specs.Value.{literal_text}
use Rattle.feel_tests.specs.declared.value.Value.{Value}
use Rattle.evaluation.specs.ValueText.{line_end}
use Rattle.faults.specs.Printable.{shown_text}
use Rattle.remit_records.specs.Report.{record_text}
use Rattle.explanation.specs.declared.format.Format.{Format}
use Rattle.explanation.specs.declared.format.Format.TheVariants.{Text, Csv}

-- the step of an explanation that a fact belongs to, the name of the fact, and its value
pub record FactParts : Type 0 where
  pub step : List ℕ
  pub name : List ℕ
  pub value : List ℕ

abbrev pub fact : List ℕ → List ℕ → List ℕ → FactParts
fact step name value = record { step = step; name = name; value = value }

-- a value as a literal, if there is one
abbrev pub value_facts : List ℕ → List ℕ → Option Value → List FactParts
value_facts step name None = []
value_facts step name (Some value) = fact step name (literal_text value) ∷ []

-- a text as a line shows it: U+FFFD replaces what is not UTF-8, and each control character and each hidden one, so that a fact has one line
abbrev pub shown : List ℕ → List ℕ
shown text = shown_text (utf8_lossy text)

-- the line of a fact
abbrev pub fact_line : FactParts → List ℕ
fact_line f = f.step ++ (codes ", " ++ (shown f.name ++ (codes ": " ++ (shown f.value ++ line_end ∷ []))))

-- the CSV record of a fact
abbrev pub fact_record : FactParts → List ℕ
fact_record f = record_text (f.step ∷ f.name ∷ f.value ∷ [])

abbrev pub fact_text : Format → FactParts → List ℕ
fact_text Text f = fact_line f
fact_text Csv f = fact_record f

-- the header of the records
abbrev pub head_text : Format → List ℕ
head_text Text = []
head_text Csv = codes "step,name,value\r\n"

-- the text of facts in a format
abbrev pub facts_text : Format → List FactParts → List ℕ
facts_text format facts = head_text format ++ flat_map (fact_text format) facts
