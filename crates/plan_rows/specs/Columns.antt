-- What the columns of a file of tests are for, and those of a file of rows.
use Rattle.std.specs.Prelude.{◌≡◌, ℕ, Bool, true, false, cond, ◌==◌, ◌&&◌, ◌||◌, nat_lt, codes, List, find, position, Option, Some, None, is_some, IsSome, IsTrue, IsUtf8, option_map, slice_get}
use Rattle.std.specs.List.{AllZip, list_any}
use Rattle.std.specs.Str.{bytes_eq}
use Rattle.csv.specs.Records.{field_at}
use Rattle.intake_csv.specs.Records.{Fields}
use Rattle.tables.specs.declared.roles.Roles.{Roles}
use Rattle.tables.specs.declared.table.InputData.{InputData}
use Rattle.tables.specs.declared.table.Table.{Table}
use Rattle.tables.specs.Environment.{or_else}
use Rattle.tables.specs.Inputs.{needs}
use Rattle.tables.specs.Plan.{PlanParts}
use Rattle.plan_rows.specs.declared.columns.Column.{Column}
use Rattle.plan_rows.specs.declared.columns.Use.{Use}
use Rattle.plan_rows.specs.declared.columns.Use.TheVariants.{Given, Expected, Settled, Fault, Carried}
use Rattle.plan_rows.specs.Filing.{first_accumulator, member_place}
use Rattle.plan_rows.specs.Parts.{is_part_name, parts}

-- the name of the column that expects a fault
abbrev pub fault_word : List ℕ
fault_word = codes "fault"

-- an output of the table has this name
abbrev pub has_output : Table → List ℕ → Bool
has_output t name = list_any (λ o. bytes_eq o.name name) t.outputs

-- an output of one of the tables has this name
abbrev pub is_output : List Table → List ℕ → Bool
is_output tables name = list_any (λ t. has_output t name) tables

-- what a column is for that expects a part of a settlement, which only a plan with roles has
abbrev pub settled_use : Option Roles → List ℕ → Option Use
settled_use None name = None
settled_use (Some roles) name = option_map Settled (find (λ part. is_part_name part name) parts)

-- what a column is for that expects the fault of the tables
abbrev pub fault_use : List ℕ → Option Use
fault_use name = cond (bytes_eq name fault_word) (Some Fault) None

-- what a column is for that gives no value: it expects an output, a part of the settlement, or the fault; the first of these has the name
abbrev pub expected_use : PlanParts → List ℕ → Option Use
expected_use plan name = cond (is_output plan.tables name) (Some Expected) (or_else (settled_use plan.roles name) (fault_use name))

-- a column with this name gives the value of the plan's name, and is for another purpose if the plan has no such name
abbrev pub use_or : PlanParts → List ℕ → Option Use → Option Use
use_or plan name other = or_else (option_map Given (position (λ d. bytes_eq d.name name) plan.names)) other

-- what a column with this name is for; a name of the plan comes before what is expected
abbrev pub use_of : PlanParts → List ℕ → Option Use
use_of plan name = use_or plan name (expected_use plan name)

-- the column gives the plan's name at this index
abbrev pub gives_place : ℕ → Use → Bool
gives_place place (Given given) = given == place
gives_place place Expected = false
gives_place place (Settled part) = false
gives_place place Fault = false
gives_place place Carried = false

-- one of the columns gives the plan's name at this index
abbrev pub gives : List Column → ℕ → Bool
gives columns place = list_any (λ c. gives_place place c.used) columns

-- one of the columns gives the name that this use gives
abbrev pub is_repeated : List Column → Use → Bool
is_repeated columns (Given place) = gives columns place
is_repeated columns Expected = false
is_repeated columns (Settled part) = false
is_repeated columns Fault = false
is_repeated columns Carried = false

-- the column has this name, and is for what the plan has under the name
pub record IsColumn (plan : PlanParts) (name : List ℕ) (column : Column) : Type 0 where
  pub named : column.name.now ≡ name
  pub used : use_of plan name ≡ Some column.used

-- the column is that of the name at a place of the header
pub record IsColumnAt (plan : PlanParts) (header : Fields) (place : ℕ) (column : Column) : Type 0 where
  pub present : field_at header place ≡ Some column.name.now
  pub used : use_of plan column.name.now ≡ Some column.used

-- no column can have the name at a place of the header: the plan has nothing with this name
abbrev pub IsUnknownAt : PlanParts → Fields → ℕ → Type 0
IsUnknownAt plan header place = (name : List ℕ) → field_at header place ≡ Some name → IsUtf8 name → use_of plan name ≡ None

-- the column at an index gives the plan's name at another index
abbrev pub IsGivenBy : List Column → ℕ → ℕ → Type 0
IsGivenBy columns column place = option_map (λ c. c.used) (slice_get columns column) ≡ Some (Given place)

-- no two columns give the same name of the plan
abbrev pub AreApart : List Column → Type 0
AreApart columns = (one other place : ℕ) → IsGivenBy columns one place → IsGivenBy columns other place → one ≡ other

-- each name that a column gives is one of these
abbrev pub AreOfNames : List InputData → List Column → Type 0
AreOfNames names columns = (column place : ℕ) → IsGivenBy columns column place → IsSome (slice_get names place)

-- these are the columns of the header, one for each name
pub record AreColumns (plan : PlanParts) (header : Fields) (columns : List Column) : Type 0 where
  pub each : AllZip (IsColumn plan) header columns
  pub apart : AreApart columns

-- the column expects a part of the settlement
abbrev pub is_settled_use : Use → Bool
is_settled_use (Given place) = false
is_settled_use Expected = false
is_settled_use (Settled part) = true
is_settled_use Fault = false
is_settled_use Carried = false

-- one of the columns does
abbrev pub expects_settlement : List Column → Bool
expects_settlement columns = list_any (λ c. is_settled_use c.used) columns

-- the rows are settled as claims: the plan has roles, and a column expects a part of the settlement
abbrev pub settles : PlanParts → List Column → Bool
settles plan columns = is_some plan.roles && expects_settlement columns

-- the name is that of the service, of the billed amount or of a field
abbrev pub is_of_claim : PlanParts → ℕ → Bool
is_of_claim plan place = nat_lt (member_place plan) place && nat_lt place (first_accumulator plan)

-- a row needs a value of the name: a table reads it, or a claim has it and the rows are settled
abbrev pub is_needed : PlanParts → List Column → ℕ → Bool
is_needed plan columns place = needs plan.tables place || (settles plan columns && is_of_claim plan place)

-- the columns give each name that is needed
abbrev pub GivesNeeded : PlanParts → List Column → Type 0
GivesNeeded plan columns = (place : ℕ) → IsTrue (is_needed plan columns place) → IsTrue (gives columns place)

-- the columns give each name that a table reads
abbrev pub GivesRead : PlanParts → List Column → Type 0
GivesRead plan columns = (place : ℕ) → IsTrue (needs plan.tables place) → IsTrue (gives columns place)

-- the name is needed, and no column gives it
pub record IsUngiven (plan : PlanParts) (columns : List Column) (name : List ℕ) : Type 0 where
  pub place : ℕ
  pub input : InputData
  pub present : slice_get plan.names place ≡ Some input
  pub named : input.name ≡ name
  pub needed : IsTrue (is_needed plan columns place)
  pub missing : gives columns place ≡ false
