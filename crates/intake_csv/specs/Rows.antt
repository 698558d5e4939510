-- The rows of a claim file: each record after the header is a claim or has a first fault.
use Rattle.std.specs.Prelude.{◌≡◌, ◌≢◌, ◌<◌, ◌+◌, ◌⊎◌, ℕ, Bool, true, false, List, [], ◌∷◌, ◌++◌, flat_map, length, Option, Some, None, Result, Ok, Err}
use Rattle.std.specs.List.{All, AllZip, Any, count_by, slice_get}
use Rattle.csv.specs.Records.{field_at}
use Rattle.feel_tests.specs.declared.value.Value.{Value}
use Rattle.feel_tests.specs.declared.value.Value.TheVariants.{Number, Text, Day}
use Rattle.tables.specs.declared.table.InputData.{InputData}
use Rattle.settlement.specs.declared.claim.Claim.{Claim}
use Rattle.settlement.specs.Bindings.{after_family}
use Rattle.intake_csv.specs.Records.{Fields}
use Rattle.intake_csv.specs.Columns.{IsHeaderedFile, claim_columns}
use Rattle.intake_csv.specs.Fields.{Holds, IsFaulty}
use Rattle.intake_csv.specs.declared.column.Column.{Column}
use Rattle.intake_csv.specs.declared.column.Layout.{Layout}
use Rattle.faults.specs.declared.file_fault.RowCause.{RowCause}
use Rattle.faults.specs.declared.file_fault.RowCause.TheVariants.{FieldCount}
use Rattle.faults.specs.declared.file_fault.RowFault.{RowFault}
use Rattle.intake_csv.specs.declared.records.Stage.{Stage}
use Rattle.intake_csv.specs.declared.records.Stage.TheVariants.{Reading, Over}
use Rattle.intake_csv.specs.declared.rows.Row.{Row}
use Rattle.intake_csv.specs.declared.rows.Row.TheVariants.{Good, Bad}

-- the field of the column has the value
pub record HoldsUnder (fields : Fields) (column : Column) (value : Value) : Type 0 where
  pub bytes : List ℕ
  pub field : field_at fields column.place ≡ Some bytes
  pub holds : Holds column.content bytes value

-- the values of a record, one for each required column
abbrev pub AreValues : Fields → List Column → List Value → Type 0
AreValues fields = AllZip (HoldsUnder fields)

-- the field of the column has this fault
pub record IsFaultyUnder (fields : Fields) (cause : RowCause) (column : Column) : Type 0 where
  pub bytes : List ℕ
  pub field : field_at fields column.place ≡ Some bytes
  pub faulty : IsFaulty column.content bytes cause

-- the field of the column has no fault
abbrev pub IsFaultlessUnder : Fields → Column → Type 0
IsFaultlessUnder fields column = (cause : RowCause) → ¬ IsFaultyUnder fields cause column

-- the fault is that of a required column, and no required column to the left of it has a fault;
-- columns count from 1
pub record IsFirstFault (fields : Fields) (columns : List Column) (fault : RowFault) : Type 0 where
  pub faulty : Any (λ c. (c.place + 1 ≡ fault.column) × IsFaultyUnder fields fault.cause c) columns
  pub first : All (λ c. c.place + 1 < fault.column → IsFaultlessUnder fields c) columns

-- the fault of a record whose number of fields differs from that of the header
abbrev pub field_count : RowFault
field_count = record { column = 0; cause = FieldCount }

-- the first fault of a record
abbrev pub HasFault : Layout → Fields → RowFault → Type 0
HasFault layout fields fault =
    ((length fields ≢ layout.width) × (fault ≡ field_count))
    ⊎ ((length fields ≡ layout.width) × IsFirstFault fields layout.columns fault)

-- the record has as many fields as the header, and these values in the required columns
abbrev pub HasValues : Layout → Fields → List Value → Type 0
HasValues layout fields values = (length fields ≡ layout.width) × AreValues fields layout.columns values

-- the result of reading a record: its values or its first fault
abbrev pub IsRecordRead : Layout → Fields → Result (List Value) RowFault → Type 0
IsRecordRead layout fields (Ok values) = HasValues layout fields values
IsRecordRead layout fields (Err fault) = HasFault layout fields fault

-- the values of a claim, in the order of the required columns
abbrev pub claim_values : Claim → List Value
claim_values claim = Text claim.id ∷ after_family claim.family (Text claim.member ∷ Day claim.service ∷ Number claim.billed ∷ claim.fields)

-- the row is that of the record with this number, if `place` claims precede it
abbrev pub IsRow : Layout → ℕ → ℕ → Fields → Row → Type 0
IsRow layout number place fields (Good n p claim) = (n ≡ number) × (p ≡ place) × HasValues layout fields (claim_values claim)
IsRow layout number place fields (Bad n fault) = (n ≡ number) × HasFault layout fields fault

-- the row is a claim
abbrev pub is_claim : Row → Bool
is_claim (Good number place claim) = true
is_claim (Bad number fault) = false

-- the rows of these records, if the first record has this number and `place` claims precede it; the
-- number of a row counts the records, and its place counts the claims before it
pub record AreRows (layout : Layout) (number place : ℕ) (records : List Fields) (rows : List Row) : Type 0 where
  pub as_many : length rows ≡ length records
  pub each : (before after : List Row) (row : Row) (fields : Fields) → rows ≡ before ++ row ∷ after → slice_get records (length before) ≡ Some fields
      → IsRow layout (number + length before) (place + count_by is_claim before) fields row

-- the rows of a text under the names of a plan
pub record AreRowsOf (names : List InputData) (text : List ℕ) (rows : List Row) : Type 0 where
  pub layout : Layout
  pub records : List Fields
  pub headered_file : IsHeaderedFile (claim_columns names) text layout records
  pub are_rows : AreRows layout 1 0 records rows

-- a reader of rows in contracts: its layout, the number of the next record, the number of claims
-- before it, the remaining records, and the stage
pub record RowsLeft : Type 0 where
  pub layout : Layout
  pub number : ℕ
  pub place : ℕ
  pub records : List Fields
  pub stage : Stage

-- the remaining rows of a reader
abbrev pub AreRowsLeft : RowsLeft → List Row → Type 0
AreRowsLeft left rows = AreRows left.layout left.number left.place left.records rows

-- the reader is at the first record after the header of the text
pub record IsAtStart (names : List InputData) (text : List ℕ) (left : RowsLeft) : Type 0 where
  pub headered_file : IsHeaderedFile (claim_columns names) text left.layout left.records
  pub number : left.number ≡ 1
  pub place : left.place ≡ 0
  pub stage : left.stage ≡ Reading

-- the claim of the row, if it has one
abbrev pub claim_in : Row → List Claim
claim_in (Good number place claim) = claim ∷ []
claim_in (Bad number fault) = []

-- the claims of rows, in order
abbrev pub claims_among : List Row → List Claim
claims_among rows = flat_map claim_in rows

-- the number of claims of the row: one or zero
abbrev pub claims_in : Row → ℕ
claims_in (Good number place claim) = 1
claims_in (Bad number fault) = 0

-- the reader advances past its next record, whose row is this one
pub record GivesRow (old new : RowsLeft) (row : Row) : Type 0 where
  pub fields : Fields
  pub next : old.records ≡ fields ∷ new.records
  pub is_row : IsRow old.layout old.number old.place fields row
  pub layout : new.layout ≡ old.layout
  pub number : new.number ≡ old.number + 1
  pub place : new.place ≡ old.place + claims_in row
  pub stage : new.stage ≡ Reading

-- the result of a reader: the row of its next record, or none if there is no further record, after
-- which the reader is over
abbrev pub Gives : RowsLeft → RowsLeft → Option Row → Type 0
Gives old new None = (old.records ≡ []) × (new ≡ record old { stage = Over })
Gives old new (Some row) = GivesRow old new row

-- the row is the first of the remaining rows, and those after it remain; without a row, none
-- remained
abbrev pub IsHead : RowsLeft → RowsLeft → Option Row → Type 0
IsHead old new None = AreRowsLeft old []
IsHead old new (Some row) = (rest : List Row) → AreRowsLeft new rest → AreRowsLeft old (row ∷ rest)
