-- The expectations of a row that can be read.
use Rattle.std.specs.Prelude.{◌≡◌, ◌⊎◌, ℕ, List, [], ◌∷◌, codes, find, Option, Some, None, option_map, slice_get}
use Rattle.std.specs.Str.{bytes_eq}
use Rattle.csv.specs.Records.{field_at}
use Rattle.feel_tests.specs.declared.kind.Kind.{Kind}
use Rattle.feel_tests.specs.declared.kind.Kind.TheVariants as kinds
use Rattle.intake_csv.specs.Records.{Fields}
use Rattle.tables.specs.declared.table.Table.{Table}
use Rattle.tables.specs.Environment.{or_else}
use Rattle.tables.specs.Plan.{PlanParts}
use Rattle.plan_rows.specs.declared.columns.Column.{Column}
use Rattle.plan_rows.specs.declared.columns.Use.{Use}
use Rattle.plan_rows.specs.declared.columns.Use.TheVariants.{Given, Expected, Settled, Fault, Carried}
use Rattle.plan_rows.specs.declared.part.Part.{Part}
use Rattle.plan_rows.specs.declared.part.Part.TheVariants.{Status, Reason, Amount}
use Rattle.plan_rows.specs.Expected.{AreOfKind}

-- the kind of the table's first output with this name
abbrev pub kind_among : Table → List ℕ → Option Kind
kind_among t name = option_map (λ o. o.kind) (find (λ o. bytes_eq o.name name) t.outputs)

-- the kind of the first output with this name
abbrev pub output_kind : List Table → List ℕ → Option Kind
output_kind [] name = None
output_kind (t ∷ ts) name = or_else (kind_among t name) (output_kind ts name)

-- the field lists values of the kind, if there is one
abbrev pub IsOfKind : List ℕ → Option Kind → Type 0
IsOfKind field None = Unit {0}
IsOfKind field (Some kind) = AreOfKind kind field

-- the field can be one of a part of a settlement: a word for a status, a reason, or a number
abbrev pub IsReadablePart : Part → List ℕ → Type 0
IsReadablePart Status field = (field ≡ codes "paid") ⊎ ((field ≡ codes "denied") ⊎ (field ≡ codes "pended"))
IsReadablePart Reason field = Unit {0}
IsReadablePart (Amount amount) field = AreOfKind kinds.Number field

-- the field can be an expectation of a column with this use and this name
abbrev pub IsReadableAs : PlanParts → Use → List ℕ → List ℕ → Type 0
IsReadableAs plan (Given place) name field = Unit {0}
IsReadableAs plan Expected name field = IsOfKind field (output_kind plan.tables name)
IsReadableAs plan (Settled part) name field = IsReadablePart part field
IsReadableAs plan Fault name field = Unit {0}
IsReadableAs plan Carried name field = Unit {0}

-- the field is empty, or can be an expectation of the column
abbrev pub IsReadable : PlanParts → Column → List ℕ → Type 0
IsReadable plan column field = (field ≡ []) ⊎ IsReadableAs plan column.used column.name.now field

-- the field of the column at an index is an expectation that cannot be read
pub record IsUnreadableAt (plan : PlanParts) (columns : List Column) (fields : Fields) (place : ℕ) : Type 0 where
  pub column : Column
  pub present : slice_get columns place ≡ Some column
  pub field : List ℕ
  pub found : field_at fields place ≡ Some field
  pub unreadable : ¬ IsReadable plan column field
