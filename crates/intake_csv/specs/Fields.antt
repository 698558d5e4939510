-- The value of a field in its column, or its fault.
use Rattle.std.specs.Prelude.{◌≡◌, ◌≢◌, ◌<◌, ℕ, ℤ, true, List, [], length, IsUtf8, Result, Ok, Err}
use Rattle.fixpoint.specs.Number.{is_negative}
use Rattle.fixpoint.specs.NumberText.{Denotes}
use Rattle.fixpoint.specs.Money.{IsCents, IsMoney}
use Rattle.feel_tests.specs.Calendar.{IsYearText}
use Rattle.feel_tests.specs.Plain.{SpellsPlain}
use Rattle.feel_tests.specs.TextBytes.{IsText}
use Rattle.feel_tests.specs.Limits.{text_limit_bytes}
use Rattle.feel_tests.specs.declared.value.Value.{Value}
use Rattle.feel_tests.specs.declared.value.Value.TheVariants.{Number}
use Rattle.intake_csv.specs.Columns.{kind_under}
use Rattle.intake_csv.specs.declared.column.Content.{Content}
use Rattle.intake_csv.specs.declared.column.Content.TheVariants as contents
use Rattle.faults.specs.declared.file_fault.RowCause.{RowCause}
use Rattle.faults.specs.declared.file_fault.RowCause.TheVariants.{FieldCount, Utf8, TooLong, EmptyId, Value as NoValue, NotCents, Negative, Repeated, Sum}

-- the bytes are the four digits of a year
abbrev pub IsYear : List ℕ → Type 0
IsYear bytes = (year : ℕ) × IsYearText bytes year

-- the whole field denotes the value, which has the column's kind; in a column of years it is a year
pub record Spells (content : Content) (bytes : List ℕ) (value : Value) : Type 0 where
  pub plain : SpellsPlain (kind_under content) bytes value
  pub year : content ≡ contents.Year → IsYear bytes

-- the value satisfies the constraint of its column: an identifier is not empty, and an amount is
-- money
abbrev pub IsAllowed : Content → List ℕ → Value → Type 0
IsAllowed contents.Identifier bytes value = bytes ≢ []
IsAllowed contents.Money bytes value = (units : ℤ) × (value ≡ Number units) × IsMoney units
IsAllowed contents.Year bytes value = Unit {0}
IsAllowed (contents.Plain kind) bytes value = Unit {0}

-- the field has the value: it denotes the value, and the value is allowed in the column
pub record Holds (content : Content) (bytes : List ℕ) (value : Value) : Type 0 where
  pub text : IsText bytes
  pub spells : Spells content bytes value
  pub allowed : IsAllowed content bytes value

-- the field is a number that is not a whole count of cents
pub record IsNotCents (bytes : List ℕ) : Type 0 where
  pub text : IsText bytes
  pub units : ℤ
  pub denotes : Denotes bytes units
  pub finer : ¬ IsCents units

-- the field is a negative whole count of cents
pub record IsBelowZero (bytes : List ℕ) : Type 0 where
  pub text : IsText bytes
  pub units : ℤ
  pub denotes : Denotes bytes units
  pub cents : IsCents units
  pub below : is_negative units ≡ true

-- the field has this fault in the column; a fault excludes those that are tested before it
abbrev pub IsFaulty : Content → List ℕ → RowCause → Type 0
IsFaulty content bytes Utf8 = ¬ IsUtf8 bytes
IsFaulty content bytes TooLong = IsUtf8 bytes × (text_limit_bytes < length bytes)
IsFaulty content bytes EmptyId = (content ≡ contents.Identifier) × (bytes ≡ [])
IsFaulty content bytes NoValue = IsText bytes × ((value : Value) → ¬ Spells content bytes value)
IsFaulty content bytes NotCents = (content ≡ contents.Money) × IsNotCents bytes
IsFaulty content bytes Negative = (content ≡ contents.Money) × IsBelowZero bytes
IsFaulty content bytes FieldCount = ⊥
IsFaulty content bytes Repeated = ⊥
IsFaulty content bytes Sum = ⊥

-- the field has no fault
abbrev pub IsFaultless : Content → List ℕ → Type 0
IsFaultless content bytes = (cause : RowCause) → ¬ IsFaulty content bytes cause

-- the result of reading a field: what is read is its value, and it has no fault; or its fault
abbrev pub IsFieldRead : {A : Type 0} → (A → Value) → Content → List ℕ → Result A RowCause → Type 0
IsFieldRead value content bytes (Ok read) = Holds content bytes (value read) × IsFaultless content bytes
IsFieldRead value content bytes (Err cause) = IsFaulty content bytes cause
