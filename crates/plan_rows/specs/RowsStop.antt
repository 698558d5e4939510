-- The meaning of each error of `value` over the rows of a file, its line on standard error, and its exit status.
use Rattle.std.specs.Prelude.{◌≡◌, ◌+◌, ◌<◌, ℕ, ◌++◌, Bool, false, List, [], ◌∷◌, codes, decimal, length, Option, Some, None, IsTrue, slice_get}
use Rattle.std.specs.Io.KnownBytes.{Keeps}
use Rattle.csv.specs.Records.{field_at}
use Rattle.dtable.specs.PlanFile.{IsPlanText}
use Rattle.evaluation.specs.declared.stop.ValueStop.TheVariants as value
use Rattle.evaluation.specs.Stop.{SpellsNoPlan, stop_text as value_stop_text, status_of as value_status, failed_after as value_failed_after, IsStopOfPlan as IsValueStopOfPlan, WritesUntil as WritesValueUntil}
use Rattle.evaluation.specs.ValueText.{line_end}
use Rattle.faults.specs.declared.plan_fault.PlanFault.{PlanFault}
use Rattle.intake_csv.specs.Limits.{file_limit_bytes}
use Rattle.intake_csv.specs.Records.{Fields, records_of}
use Rattle.tables.specs.declared.table.InputData.{InputData}
use Rattle.tables.specs.Inputs.{needs}
use Rattle.tables.specs.Plan.{PlanParts}
use Rattle.plan_rows.specs.declared.columns.Column.{Column}
use Rattle.plan_rows.specs.declared.columns.Use.TheVariants.{Given}
use Rattle.plan_rows.specs.declared.rows_stop.RowsFault.{RowsFault}
use Rattle.plan_rows.specs.declared.rows_stop.RowsFault.TheVariants.{TooLarge, NoHeader, Repeated, Taken}
use Rattle.plan_rows.specs.declared.rows_stop.RowsStop.{RowsStop}
use Rattle.plan_rows.specs.declared.rows_stop.RowsStop.TheVariants.{Value, Rows}
use Rattle.plan_rows.specs.Columns.{gives}
use Rattle.plan_rows.specs.RowColumns.{AreRowColumns, row_use}

-- the text of a fault of the file of rows
abbrev pub rows_fault_text : RowsFault → List ℕ
rows_fault_text TooLarge = codes "rows fault 1"
rows_fault_text NoHeader = codes "rows fault 2"
rows_fault_text (Repeated column) = codes "rows fault 3 column " ++ decimal column
rows_fault_text (Taken column) = codes "rows fault 4 column " ++ decimal column

-- the text of an error
abbrev pub stop_text : RowsStop → List ℕ
stop_text (Value s) = value_stop_text s
stop_text (Rows fault) = rows_fault_text fault

-- the line of an error
abbrev pub stop_line : RowsStop → List ℕ
stop_line s = stop_text s ++ line_end ∷ []

-- the exit status
abbrev pub status_of : RowsStop → ℕ
status_of (Value s) = value_status s
status_of (Rows fault) = 1

-- this column has the name of a column that the result has besides
pub record IsTakenColumn (plan : PlanParts) (header : Fields) (number : ℕ) : Type 0 where
  pub place : ℕ
  pub counted : number ≡ place + 1
  pub name : List ℕ
  pub present : field_at header place ≡ Some name
  pub taken : row_use plan name ≡ None

-- this column gives a name of the plan that an earlier column gives
pub record IsGivenAgain (plan : PlanParts) (header : Fields) (number : ℕ) : Type 0 where
  pub place : ℕ
  pub counted : number ≡ place + 1
  pub name : List ℕ
  pub present : field_at header place ≡ Some name
  pub earlier : ℕ
  pub before : earlier < place
  pub earlier_name : List ℕ
  pub there : field_at header earlier ≡ Some earlier_name
  pub given : ℕ
  pub gives : row_use plan name ≡ Some (Given given)
  pub same : row_use plan earlier_name ≡ Some (Given given)

-- the columns of the header do not give a name that a table reads
pub record LacksName (plan : PlanParts) (header : Fields) (name : List ℕ) : Type 0 where
  pub columns : List Column
  pub are_columns : AreRowColumns plan header columns
  pub place : ℕ
  pub input : InputData
  pub present : slice_get plan.names place ≡ Some input
  pub named : input.name ≡ name
  pub read : IsTrue (needs plan.tables place)
  pub missing : gives columns place ≡ false

-- the header has this error; memory can run out for any header
abbrev pub RefusesHeader : PlanParts → Fields → RowsStop → Type 0
RefusesHeader plan header (Value (value.Missing name)) = LacksName plan header name
RefusesHeader plan header (Value value.NoMemory) = Unit {0}
RefusesHeader plan header (Rows (Repeated column)) = IsGivenAgain plan header column
RefusesHeader plan header (Rows (Taken column)) = IsTakenColumn plan header column
RefusesHeader plan header _ = ⊥

-- the first of these records is a header with this error
pub record HasBadHeader (plan : PlanParts) (records : List Fields) (s : RowsStop) : Type 0 where
  pub header : Fields
  pub rows : List Fields
  pub split : records ≡ header ∷ rows
  pub refused : RefusesHeader plan header s

-- the records have this error under the plan
abbrev pub RefusesRecords : PlanParts → List Fields → RowsStop → Type 0
RefusesRecords plan records (Rows NoHeader) = records ≡ []
RefusesRecords plan records (Value value.NoMemory) = Unit {0}
RefusesRecords plan records s = HasBadHeader plan records s

-- the file of rows has this error under the plan
abbrev pub RefusesRows : PlanParts → List ℕ → RowsStop → Type 0
RefusesRows plan rows (Rows TooLarge) = file_limit_bytes < length rows
RefusesRows plan rows s = RefusesRecords plan (records_of rows) s

-- the error can occur for these texts, before the first byte is written
abbrev pub RefusesTexts : List ℕ → List ℕ → RowsStop → Type 0
RefusesTexts plan_text rows (Value (value.Plan fault)) = SpellsNoPlan plan_text fault
RefusesTexts plan_text rows (Value value.NoMemory) = Unit {0}
RefusesTexts plan_text rows (Value (value.Write written)) = ⊥
RefusesTexts plan_text rows s = (plan : PlanParts) × IsPlanText plan_text plan × RefusesRows plan rows s

-- the error can occur for these texts; the writer can fail at any text
abbrev pub IsReason : List ℕ → List ℕ → RowsStop → Type 0
IsReason plan_text rows (Value (value.Write written)) = Unit {0}
IsReason plan_text rows s = RefusesTexts plan_text rows s

-- the bytes that the writer has received before an error: the first bytes of the text before a write fault, and otherwise nothing
abbrev pub WritesUntil : (List ℕ → Type 0) → Option (List ℕ) → Option (List ℕ) → RowsStop → Type 0
WritesUntil IsText old new (Value s) = WritesValueUntil IsText old new s
WritesUntil IsText old new (Rows fault) = Keeps old new

-- whether the writer has failed after an error: it has after a write fault, and other errors leave it unchanged
abbrev pub failed_after : Bool → RowsStop → Bool
failed_after before (Value s) = value_failed_after before s
failed_after before (Rows fault) = before

-- the error for a fault of the plan's text
abbrev pub IsStopOfPlan : PlanFault → RowsStop → Type 0
IsStopOfPlan fault (Value s) = IsValueStopOfPlan fault s
IsStopOfPlan fault (Rows rows) = ⊥
