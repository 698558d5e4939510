-- What the command `value` prints for the rows of a file: the rows, with the outputs and the fault as further columns.
use Rattle.std.specs.Prelude.{◌≡◌, ◌≢◌, ◌≤◌, ◌+◌, ◌⊎◌, ℕ, zero, suc, List, [], ◌∷◌, ◌++◌, codes, flat_map, length, map, Ok}
use Rattle.std.specs.List.{AllZip}
use Rattle.std.specs.Option.{option_map_or}
use Rattle.dtable.specs.PlanFile.{IsPlanText}
use Rattle.evaluation.specs.ValueText.{AreAnswered}
use Rattle.faults.specs.ReasonText.{numbered}
use Rattle.intake_csv.specs.Limits.{file_limit_bytes}
use Rattle.intake_csv.specs.Records.{Fields, records_of}
use Rattle.tables.specs.declared.inputs.Slot.{Slot}
use Rattle.tables.specs.declared.table.Table.{Table}
use Rattle.tables.specs.Environment.{Environment, env}
use Rattle.tables.specs.Inputs.{IsReady}
use Rattle.tables.specs.Plan.{PlanParts}
use Rattle.plan_rows.specs.declared.columns.Column.{Column}
use Rattle.plan_rows.specs.Columns.{GivesRead, fault_word}
use Rattle.plan_rows.specs.Expected.{plain_answer}
use Rattle.plan_rows.specs.Given.{AreReadBefore, GivesRow, IsUnreadAt}
use Rattle.plan_rows.specs.Lines.{TablesValue, answered, tables_fault}
use Rattle.plan_rows.specs.RowColumns.{AreRowColumns}
use Rattle.plan_rows.specs.Sheet.{text_of}

-- the names of the outputs, in the order of the plan
abbrev pub output_names : List Table → List (List ℕ)
output_names tables = flat_map (λ t. map (λ o. o.name) t.outputs) tables

-- the header: the names of the file's columns, those of the outputs, and that of the faults
abbrev pub header_record : PlanParts → Fields → Fields
header_record plan header = header ++ (output_names plan.tables ++ fault_word ∷ [])

-- the first fields of a row, as many as this number; where it has fewer, empty ones follow
abbrev pub fitted : ℕ → Fields → Fields
fitted zero fields = []
fitted (suc count) [] = [] ∷ fitted count []
fitted (suc count) (field ∷ fields) = field ∷ fitted count fields

-- what follows the fields of a row: the texts of the outputs, and that of the fault, which is empty if there is none
pub record RowEnd : Type 0 where
  pub outputs : Fields
  pub fault : List ℕ

abbrev pub end_fields : RowEnd → Fields
end_fields row_end = row_end.outputs ++ row_end.fault ∷ []

-- a row without a value: each output is empty
abbrev pub faulty_end : List Table → List ℕ → RowEnd
faulty_end tables fault = record { outputs = map (λ name. []) (output_names tables); fault = fault }

-- the text of the answer of the output with this name; empty after a fault of the tables
abbrev pub output_text : TablesValue → List ℕ → List ℕ
output_text value name = option_map_or plain_answer (answered value name) []

-- a row with this value of the tables
abbrev pub valued_end : List Table → TablesValue → RowEnd
valued_end tables value = record { outputs = map (output_text value) (output_names tables); fault = tables_fault value }

-- the fault of a row that has another number of fields than the header, as the remittance has it
abbrev pub width_fault : List ℕ
width_fault = codes "fieldcount"

-- the fault of a row whose field at an index denotes no value, with the number of its column, as the remittance has it
abbrev pub value_fault : ℕ → List ℕ
value_fault place = numbered (codes "value") (place + 1)

-- the field at an index is the first that denotes no value
pub record IsFirstUnread (plan : PlanParts) (columns : List Column) (fields : Fields) (place : ℕ) : Type 0 where
  pub unread : IsUnreadAt plan.names columns fields place
  pub first : AreReadBefore plan.names columns fields place

-- the row gives a value to each name that a table reads, and these are all of its values
pub record GivesAll (plan : PlanParts) (columns : List Column) (fields : Fields) (given : List Slot) : Type 0 where
  pub gives : GivesRow plan.names columns fields given
  pub ready : IsReady plan.tables given

-- the row has the value of the tables for its values, which has an answer for each output, or their first fault
pub record IsEvaluated (plan : PlanParts) (columns : List Column) (fields : Fields) (row_end : RowEnd) : Type 0 where
  pub given : List Slot
  pub gives : GivesAll plan columns fields given
  pub answered : (values : Environment) → env plan given ≡ Ok values → AreAnswered values plan.tables
  pub end_is : row_end ≡ valued_end plan.tables (env plan given)

-- what follows the fields of a row that has as many as the header
abbrev pub IsFieldsEnd : PlanParts → List Column → Fields → RowEnd → Type 0
IsFieldsEnd plan columns fields row_end =
    ((place : ℕ) × IsFirstUnread plan columns fields place × (row_end ≡ faulty_end plan.tables (value_fault place)))
    ⊎ IsEvaluated plan columns fields row_end

-- what follows the fields of a row
abbrev pub IsRowEnd : PlanParts → List Column → Fields → RowEnd → Type 0
IsRowEnd plan columns fields row_end =
    ((length fields ≢ length columns) × (row_end ≡ faulty_end plan.tables width_fault))
    ⊎ ((length fields ≡ length columns) × IsFieldsEnd plan columns fields row_end)

-- the record for a row
pub record IsValued (plan : PlanParts) (columns : List Column) (fields written : Fields) : Type 0 where
  pub row_end : RowEnd
  pub is_end : IsRowEnd plan columns fields row_end
  pub record_is : written ≡ fitted (length columns) fields ++ end_fields row_end

-- the text for a header with these columns and for these rows: the header, and a record for each row in the order of the rows
pub record IsTextUnder (plan : PlanParts) (header : Fields) (columns : List Column) (rows : List Fields) (text : List ℕ) : Type 0 where
  pub records : List Fields
  pub valued : AllZip (IsValued plan columns) rows records
  pub joined : text ≡ text_of (header_record plan header ∷ records)

-- the text for this header and these rows
pub record IsTextOfRows (plan : PlanParts) (header : Fields) (rows : List Fields) (text : List ℕ) : Type 0 where
  pub columns : List Column
  pub are_columns : AreRowColumns plan header columns
  pub needed : GivesRead plan columns
  pub is_text : IsTextUnder plan header columns rows text

-- the text for these records, of which the first one is the header
pub record IsTextOfRecords (plan : PlanParts) (records : List Fields) (text : List ℕ) : Type 0 where
  pub header : Fields
  pub rows : List Fields
  pub split : records ≡ header ∷ rows
  pub is_text : IsTextOfRows plan header rows text

-- the text that the command prints for a plan and the text of a file of rows
pub record IsTextOf (plan : PlanParts) (rows : List ℕ) (text : List ℕ) : Type 0 where
  pub small : length rows ≤ file_limit_bytes
  pub is_text : IsTextOfRecords plan (records_of rows) text

-- the text that the command prints for the plan that the plan's text denotes
pub record IsRowsText (plan_text rows text : List ℕ) : Type 0 where
  pub plan : PlanParts
  pub spelled : IsPlanText plan_text plan
  pub is_text : IsTextOf plan rows text
