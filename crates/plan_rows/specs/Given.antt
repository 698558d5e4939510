-- The values that the fields of a row give.
use Rattle.std.specs.Prelude.{◌≡◌, ◌<◌, ℕ, List, length, None, Some, IsUtf8, option_map, slice_get}
use Rattle.csv.specs.Records.{field_at}
use Rattle.feel_tests.specs.declared.value.Value.{Value}
use Rattle.feel_tests.specs.declared.kind.Kind.{Kind}
use Rattle.feel_tests.specs.Plain.{SpellsPlain}
use Rattle.intake_csv.specs.Records.{Fields}
use Rattle.tables.specs.declared.inputs.Slot.{Slot}
use Rattle.tables.specs.declared.table.InputData.{InputData}
use Rattle.tables.specs.Inputs.{kind_at, value_at}
use Rattle.plan_rows.specs.declared.columns.Column.{Column}
use Rattle.plan_rows.specs.Columns.{IsGivenBy}

-- the field is a text that denotes the value
abbrev pub IsFieldOf : Kind → List ℕ → Value → Type 0
IsFieldOf kind field value = IsUtf8 field × SpellsPlain kind field value

-- the field at a place denotes the value
abbrev pub IsValueAt : Kind → Fields → ℕ → Value → Type 0
IsValueAt kind fields place value = (field : List ℕ) × (field_at fields place ≡ Some field) × IsFieldOf kind field value

-- the field at a place denotes no value of the kind
abbrev pub IsUnreadField : Kind → Fields → ℕ → Type 0
IsUnreadField kind fields place = (field : List ℕ) × (field_at fields place ≡ Some field) × ((value : Value) → ¬ IsFieldOf kind field value)

-- the field of a column denotes the value of the plan's name at an index
pub record IsReadAt (names : List InputData) (fields : Fields) (given : List Slot) (column place : ℕ) : Type 0 where
  pub input : InputData
  pub named : slice_get names place ≡ Some input
  pub value : Value
  pub read : IsValueAt input.kind fields column value
  pub found : value_at given place ≡ Some value

-- the fields of the columns before an index give these values: there is a slot for each name with its kind, and its value is that of the
-- field if there is one
pub record GivesBelow (end : ℕ) (names : List InputData) (columns : List Column) (fields : Fields) (given : List Slot) : Type 0 where
  pub kinds : (place : ℕ) → kind_at given place ≡ option_map (λ d. d.kind) (slice_get names place)
  pub each : (column place : ℕ) → column < end → IsGivenBy columns column place → IsReadAt names fields given column place
  pub others : (place : ℕ) → ((column : ℕ) → column < end → ¬ IsGivenBy columns column place) → value_at given place ≡ None

-- the fields of a row give these values
abbrev pub GivesRow : List InputData → List Column → Fields → List Slot → Type 0
GivesRow names columns fields given = GivesBelow (length columns) names columns fields given

-- the field of a column that gives a value denotes no value of the name's kind
pub record IsUnreadAt (names : List InputData) (columns : List Column) (fields : Fields) (column : ℕ) : Type 0 where
  pub place : ℕ
  pub given : IsGivenBy columns column place
  pub input : InputData
  pub named : slice_get names place ≡ Some input
  pub unread : IsUnreadField input.kind fields column

-- no field before that of the column at an index is such a field
abbrev pub AreReadBefore : List InputData → List Column → Fields → ℕ → Type 0
AreReadBefore names columns fields column = (earlier : ℕ) → earlier < column → ¬ IsUnreadAt names columns fields earlier
