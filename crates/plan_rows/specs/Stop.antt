-- The meaning of each error of `test` for the texts, its line on standard error, and its exit status.
use Rattle.std.specs.Prelude.{◌≡◌, ◌+◌, ◌<◌, ℕ, ◌++◌, Bool, true, List, [], ◌∷◌, codes, decimal, length, Option, Some}
use Rattle.std.specs.Io.KnownBytes.{Keeps}
use Rattle.csv.specs.Records.{field_at}
use Rattle.dtable.specs.PlanFile.{IsPlanText}
use Rattle.evaluation.specs.declared.stop.ValueStop.TheVariants as value
use Rattle.evaluation.specs.Stop.{SpellsNoPlan, WritesFront, stop_text as value_stop_text, status_of as value_status, IsStopOfPlan as IsValueStopOfPlan}
use Rattle.evaluation.specs.ValueText.{line_end}
use Rattle.faults.specs.declared.plan_fault.PlanFault.{PlanFault}
use Rattle.intake_csv.specs.Limits.{file_limit_bytes}
use Rattle.intake_csv.specs.Records.{Fields, records_of}
use Rattle.tables.specs.Plan.{PlanParts}
use Rattle.plan_rows.specs.declared.columns.Column.{Column}
use Rattle.plan_rows.specs.declared.columns.Use.TheVariants.{Given}
use Rattle.plan_rows.specs.declared.stop.CasesFault.{CasesFault}
use Rattle.plan_rows.specs.declared.stop.CasesFault.TheVariants.{TooLarge, NoHeader, Unknown, Repeated}
use Rattle.plan_rows.specs.declared.stop.TestStop.{TestStop}
use Rattle.plan_rows.specs.declared.stop.TestStop.TheVariants.{Value, Cases}
use Rattle.plan_rows.specs.Columns.{AreColumns, IsUngiven, IsUnknownAt, use_of}

-- the text of a fault of the file of tests
abbrev pub cases_fault_text : CasesFault → List ℕ
cases_fault_text TooLarge = codes "tests fault 1"
cases_fault_text NoHeader = codes "tests fault 2"
cases_fault_text (Unknown column) = codes "tests fault 3 column " ++ decimal column
cases_fault_text (Repeated column) = codes "tests fault 4 column " ++ decimal column

-- the text of an error
abbrev pub stop_text : TestStop → List ℕ
stop_text (Value s) = value_stop_text s
stop_text (Cases fault) = cases_fault_text fault

-- the line of an error
abbrev pub stop_line : TestStop → List ℕ
stop_line s = stop_text s ++ line_end ∷ []

-- the exit status
abbrev pub status_of : TestStop → ℕ
status_of (Value s) = value_status s
status_of (Cases fault) = 1

-- the plan has nothing with the name of this column
pub record IsUnknownColumn (plan : PlanParts) (header : Fields) (number : ℕ) : Type 0 where
  pub place : ℕ
  pub counted : number ≡ place + 1
  pub name : List ℕ
  pub present : field_at header place ≡ Some name
  pub unknown : IsUnknownAt plan header place

-- this column gives a name of the plan that an earlier column gives
pub record IsRepeatedColumn (plan : PlanParts) (header : Fields) (number : ℕ) : Type 0 where
  pub place : ℕ
  pub counted : number ≡ place + 1
  pub name : List ℕ
  pub present : field_at header place ≡ Some name
  pub earlier : ℕ
  pub before : earlier < place
  pub earlier_name : List ℕ
  pub there : field_at header earlier ≡ Some earlier_name
  pub given : ℕ
  pub gives : use_of plan name ≡ Some (Given given)
  pub same : use_of plan earlier_name ≡ Some (Given given)

-- the columns of the header do not give a name that is needed
pub record LacksName (plan : PlanParts) (header : Fields) (name : List ℕ) : Type 0 where
  pub columns : List Column
  pub are_columns : AreColumns plan header columns
  pub missing : IsUngiven plan columns name

-- the header has this error; memory can run out for any header
abbrev pub RefusesHeader : PlanParts → Fields → TestStop → Type 0
RefusesHeader plan header (Value (value.Missing name)) = LacksName plan header name
RefusesHeader plan header (Value value.NoMemory) = Unit {0}
RefusesHeader plan header (Cases (Unknown column)) = IsUnknownColumn plan header column
RefusesHeader plan header (Cases (Repeated column)) = IsRepeatedColumn plan header column
RefusesHeader plan header _ = ⊥

-- the first of these records is a header with this error
pub record HasBadHeader (plan : PlanParts) (records : List Fields) (s : TestStop) : Type 0 where
  pub header : Fields
  pub rows : List Fields
  pub split : records ≡ header ∷ rows
  pub refused : RefusesHeader plan header s

-- the records have this error under the plan
abbrev pub RefusesRecords : PlanParts → List Fields → TestStop → Type 0
RefusesRecords plan records (Cases NoHeader) = records ≡ []
RefusesRecords plan records (Value value.NoMemory) = Unit {0}
RefusesRecords plan records s = HasBadHeader plan records s

-- the file of tests has this error under the plan
abbrev pub RefusesCases : PlanParts → List ℕ → TestStop → Type 0
RefusesCases plan cases (Cases TooLarge) = file_limit_bytes < length cases
RefusesCases plan cases s = RefusesRecords plan (records_of cases) s

-- the error can occur for these texts, before the first byte is written
abbrev pub RefusesTexts : List ℕ → List ℕ → TestStop → Type 0
RefusesTexts plan_text cases (Value (value.Plan fault)) = SpellsNoPlan plan_text fault
RefusesTexts plan_text cases (Value value.NoMemory) = Unit {0}
RefusesTexts plan_text cases (Value (value.Write written)) = ⊥
RefusesTexts plan_text cases s = (plan : PlanParts) × IsPlanText plan_text plan × RefusesCases plan cases s

-- the error can occur for these texts; the writer can fail at any text
abbrev pub IsReason : List ℕ → List ℕ → TestStop → Type 0
IsReason plan_text cases (Value (value.Write written)) = Unit {0}
IsReason plan_text cases s = RefusesTexts plan_text cases s

-- the bytes that the writer has received before an error: the first bytes of the text before a write fault, and otherwise nothing
abbrev pub WritesUntil : (List ℕ → Type 0) → Option (List ℕ) → Option (List ℕ) → TestStop → Type 0
WritesUntil IsText old new (Value (value.Write written)) = WritesFront IsText old new written
WritesUntil IsText old new _ = Keeps old new

-- whether the writer has failed after an error: it has after a write fault, and other errors leave it unchanged
abbrev pub failed_after : Bool → TestStop → Bool
failed_after before (Value (value.Write written)) = true
failed_after before _ = before

-- the error for a fault of the plan's text
abbrev pub IsStopOfPlan : PlanFault → TestStop → Type 0
IsStopOfPlan fault (Value s) = IsValueStopOfPlan fault s
IsStopOfPlan fault (Cases cases) = ⊥
