-- The validation of a record without its values.
use Rattle.std.specs.Prelude.{◌≡◌, ℕ, List, Option, Some, None}
use Rattle.csv.specs.Records.{field_at}
use Rattle.feel_tests.specs.TextBytes.{IsText}
use Rattle.feel_tests.specs.declared.value.Value.{Value}
use Rattle.intake_csv.specs.Records.{Fields}
use Rattle.intake_csv.specs.Fields.{Holds, IsFaultless, IsFaulty}
use Rattle.intake_csv.specs.Record.{SoFar}
use Rattle.intake_csv.specs.Rows.{HoldsUnder, IsFaultlessUnder, IsFaultyUnder}
use Rattle.intake_csv.specs.declared.column.Column.{Column}
use Rattle.intake_csv.specs.declared.column.Content.{Content}
use Rattle.faults.specs.declared.file_fault.RowCause.{RowCause}
use Rattle.faults.specs.declared.file_fault.RowFault.{RowFault}

-- the field of the column is this text
abbrev pub IsTextUnder : Fields → Column → List ℕ → Type 0
IsTextUnder fields column bytes = (field_at fields column.place ≡ Some bytes) × IsText bytes

-- the field of the column has a fault
abbrev pub IsRefusedUnder : Fields → Column → Type 0
IsRefusedUnder fields column = (cause : RowCause) × IsFaultyUnder fields cause column

-- what is read is the value of the column's field; if nothing is read, the field has a fault
abbrev pub IsReadUnder : {A : Type 0} → (A → Value) → Fields → Column → Option A → Type 0
IsReadUnder value fields column (Some read) = HoldsUnder fields column (value read)
IsReadUnder value fields column None = IsRefusedUnder fields column

-- the field has a value and no fault, or its first fault is this one
abbrev pub IsFieldValidated : Content → List ℕ → Option RowCause → Type 0
IsFieldValidated content bytes None = ((value : Value) × Holds content bytes value) × IsFaultless content bytes
IsFieldValidated content bytes (Some cause) = IsFaulty content bytes cause

-- the field of the column has a value and no fault, or its first fault is this one
abbrev pub IsColumnValidated : Fields → Column → Option RowCause → Type 0
IsColumnValidated fields column None = ((value : Value) × HoldsUnder fields column value) × IsFaultlessUnder fields column
IsColumnValidated fields column (Some cause) = IsFaultyUnder fields cause column

-- the columns have values and no fault, or their first fault is this one
abbrev pub AreValidated : Fields → List Column → Option RowFault → Type 0
AreValidated fields columns first = (values : List Value) × SoFar fields columns values first
