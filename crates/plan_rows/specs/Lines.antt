-- The lines of a row: one for each expectation that the plan does not meet.
use Rattle.std.specs.Prelude.{◌≡◌, ◌⊎◌, ◌||◌, ℕ, ◌++◌, Bool, true, false, cond, List, [], ◌∷◌, codes, decimal, Option, Some, None, Result, Ok, Err, IsSomeAnd, IsUtf8, length, ◌==◌, not}
use Rattle.std.specs.List.{AllZip}
use Rattle.std.specs.Option.{option_map_or}
use Rattle.std.specs.Str.Lossy.{utf8_lossy}
use Rattle.evaluation.specs.Stop.{fault_text}
use Rattle.faults.specs.Printable.{shown_text}
use Rattle.faults.specs.declared.fault.Fault.{Fault}
use Rattle.fixpoint.specs.NumberText.{shortest_text}
use Rattle.feel_tests.specs.declared.value.Value.TheVariants.{Number}
use Rattle.intake_csv.specs.Records.{Fields}
use Rattle.tables.specs.declared.environment.Answer.{Answer}
use Rattle.tables.specs.Environment.{Environment, answer_of}
use Rattle.settlement.specs.declared.outcome.Outcome.{Outcome}
use Rattle.plan_rows.specs.declared.columns.Column.{Column}
use Rattle.plan_rows.specs.declared.columns.Use.{Use}
use Rattle.plan_rows.specs.declared.columns.Use.TheVariants.{Given, Expected, Settled, Carried, Fault as FaultOfTables}
use Rattle.plan_rows.specs.declared.finding.Finding.{Finding}
use Rattle.plan_rows.specs.declared.part.Part.{Part}
use Rattle.plan_rows.specs.declared.part.Part.TheVariants.{Status, Reason, Amount}
use Rattle.plan_rows.specs.Columns.{fault_word}
use Rattle.plan_rows.specs.Expected.{Denotes, HasAnswer, plain_answer}
use Rattle.plan_rows.specs.Parts.{amount_of, pending_text, status_word}

-- the value of each table, or the first fault
abbrev pub TablesValue : Type 0
TablesValue = Result Environment Fault

-- the answer of the output with this name; none after a fault
abbrev pub answered : TablesValue → List ℕ → Option Answer
answered (Ok values) name = answer_of values.tables values.answers name
answered (Err fault) name = None

-- the text of the fault; empty if there is none
abbrev pub tables_fault : TablesValue → List ℕ
tables_fault (Ok values) = []
tables_fault (Err fault) = fault_text fault

-- the reason why the claim of the row pends, or the fault of the tables if the row is not settled; empty if there is none
abbrev pub fault_of : Option Outcome → TablesValue → List ℕ
fault_of None tables = tables_fault tables
fault_of (Some outcome) tables = pending_text outcome.verdict

abbrev pub found_fault : Finding → List ℕ
found_fault finding = fault_of finding.settled finding.tables

-- the field is that of a part of the outcome: the word or the reason, or a text of the amount
abbrev pub HasPart : Part → List ℕ → Outcome → Type 0
HasPart Status field outcome = field ≡ status_word outcome.verdict
HasPart Reason field outcome = field ≡ pending_text outcome.verdict
HasPart (Amount amount) field outcome = IsUtf8 field × Denotes field (Number (amount_of amount outcome))

-- what the field of a column expects is found
abbrev pub IsFound : Use → Finding → List ℕ → List ℕ → Type 0
IsFound (Given place) finding name field = Unit {0}
IsFound Carried finding name field = Unit {0}
IsFound Expected finding name field = IsSomeAnd (answered finding.tables name) (HasAnswer field)
IsFound (Settled part) finding name field = IsSomeAnd finding.settled (HasPart part field)
IsFound FaultOfTables finding name field = field ≡ found_fault finding

-- the column expects nothing by an empty field
abbrev pub IsOptional : Use → Type 0
IsOptional (Given place) = Unit {0}
IsOptional Carried = Unit {0}
IsOptional Expected = Unit {0}
IsOptional (Settled part) = Unit {0}
IsOptional FaultOfTables = ⊥

-- the expectation of a column's field is met; an empty field expects no answer and no part of the settlement, or that there is no fault
abbrev pub IsMet : Finding → Column → List ℕ → Type 0
IsMet finding column field = ((field ≡ []) × IsOptional column.used) ⊎ IsFound column.used finding column.name.now field

-- the word for a text that is absent
abbrev pub absent_word : List ℕ
absent_word = codes "none"

-- the text, or the word for an absent one if it is empty
abbrev pub shown : List ℕ → List ℕ
shown [] = absent_word
shown (byte ∷ bytes) = byte ∷ bytes

-- a part of the outcome as a text
abbrev pub part_text : Part → Outcome → List ℕ
part_text Status outcome = status_word outcome.verdict
part_text Reason outcome = shown (pending_text outcome.verdict)
part_text (Amount amount) outcome = shortest_text (amount_of amount outcome)

-- what is found in place of the expectation of a column
abbrev pub found_as : Use → Finding → List ℕ → List ℕ
found_as (Given place) finding name = []
found_as Carried finding name = []
found_as Expected finding name = option_map_or plain_answer (answered finding.tables name) absent_word
found_as (Settled part) finding name = option_map_or (part_text part) finding.settled absent_word
found_as FaultOfTables finding name = shown (found_fault finding)

abbrev pub found_text : Finding → Column → List ℕ
found_text finding column = found_as column.used finding column.name.now

-- a text as a line shows it: U+FFFD replaces what is not UTF-8, and each control character and each hidden one
abbrev pub printed : List ℕ → List ℕ
printed text = shown_text (utf8_lossy text)

-- the beginning `row N: ` of a line
abbrev pub row_start : ℕ → List ℕ
row_start number = codes "row " ++ (decimal number ++ codes ": ")

-- the words `expected NAME EXPECTED`
abbrev pub expected_words : List ℕ → List ℕ → List ℕ
expected_words name expected = codes "expected " ++ (printed name ++ (codes " " ++ printed expected))

-- the words `, found FOUND` and the end of the line
abbrev pub found_words : List ℕ → List ℕ
found_words found = codes ", found " ++ (printed found ++ codes "\n")

-- the line `row N: expected NAME EXPECTED, found FOUND`
abbrev pub difference_line : ℕ → List ℕ → List ℕ → List ℕ → List ℕ
difference_line number name expected found = row_start number ++ (expected_words name expected ++ found_words found)

-- the text for one field: empty if its expectation is met, and otherwise the line of the difference
abbrev pub IsFieldText : ℕ → Finding → Column → List ℕ → List ℕ → Type 0
IsFieldText number finding column field text =
    (IsMet finding column field × (text ≡ []))
    ⊎ ((¬ IsMet finding column field) × (text ≡ difference_line number column.name.now (shown field) (found_text finding column)))

-- the texts for the fields of these columns, one after another
abbrev pub AreFieldTexts : ℕ → Finding → List Column → Fields → List ℕ → Type 0
AreFieldTexts number finding [] [] text = text ≡ []
AreFieldTexts number finding (column ∷ columns) (field ∷ fields) text =
    (line : List ℕ) × (rest : List ℕ) × IsFieldText number finding column field line × AreFieldTexts number finding columns fields rest × (text ≡ line ++ rest)
AreFieldTexts number finding _ _ text = ⊥

-- the field is not empty
abbrev pub is_filled : List ℕ → Bool
is_filled field = not (length field == 0)

-- the field says whether the claim pends or the tables have a fault
abbrev pub is_for_faults : Use → List ℕ → Bool
is_for_faults (Given place) field = false
is_for_faults Carried field = false
is_for_faults Expected field = false
is_for_faults (Settled Status) field = is_filled field
is_for_faults (Settled Reason) field = is_filled field
is_for_faults (Settled (Amount amount)) field = false
is_for_faults FaultOfTables field = true

-- one of the fields does
abbrev pub expects_faults : List Column → Fields → Bool
expects_faults (column ∷ columns) (field ∷ fields) = is_for_faults column.used field || expects_faults columns fields
expects_faults _ _ = false

-- the line of a fault; empty if there is none
abbrev pub fault_line : ℕ → List ℕ → List ℕ
fault_line number [] = []
fault_line number (byte ∷ bytes) = difference_line number fault_word absent_word (byte ∷ bytes)

-- the line of a fault of which no field says anything; empty if there is none
abbrev pub unexpected_line : ℕ → List Column → Fields → Finding → List ℕ
unexpected_line number columns fields finding = cond (expects_faults columns fields) [] (fault_line number (found_fault finding))

-- the text of a row with this finding: the lines of its differences
pub record IsRowText (number : ℕ) (finding : Finding) (columns : List Column) (fields : Fields) (text : List ℕ) : Type 0 where
  pub lines : List ℕ
  pub are_lines : AreFieldTexts number finding columns fields lines
  pub joined : text ≡ unexpected_line number columns fields finding ++ lines

-- the finding meets each expectation of the row: those of its fields, and that there is no fault unless a field says so
pub record MeetsRow (finding : Finding) (columns : List Column) (fields : Fields) : Type 0 where
  pub each : AllZip (IsMet finding) columns fields
  pub without_fault : expects_faults columns fields ≡ false → found_fault finding ≡ []
