-- What the columns of a file of rows are for: some give values, and the others are carried over.
use Rattle.std.specs.Prelude.{◌≡◌, ℕ, Bool, cond, ◌||◌, List, Option, Some, None}
use Rattle.std.specs.List.{AllZip}
use Rattle.std.specs.Str.{bytes_eq}
use Rattle.intake_csv.specs.Records.{Fields}
use Rattle.tables.specs.Plan.{PlanParts}
use Rattle.plan_rows.specs.declared.columns.Column.{Column}
use Rattle.plan_rows.specs.declared.columns.Use.{Use}
use Rattle.plan_rows.specs.declared.columns.Use.TheVariants.{Carried}
use Rattle.plan_rows.specs.Columns.{AreApart, fault_word, is_output, use_or}

-- the name is that of a column that the result has besides: of an output, or of the faults
abbrev pub is_taken : PlanParts → List ℕ → Bool
is_taken plan name = is_output plan.tables name || bytes_eq name fault_word

-- what a column is for that gives no value; no column may have a name that is taken
abbrev pub carried_use : PlanParts → List ℕ → Option Use
carried_use plan name = cond (is_taken plan name) None (Some Carried)

-- what a column with this name is for
abbrev pub row_use : PlanParts → List ℕ → Option Use
row_use plan name = use_or plan name (carried_use plan name)

-- the column is for what a column with this name is for
abbrev pub IsRowColumn : PlanParts → List ℕ → Column → Type 0
IsRowColumn plan name column = row_use plan name ≡ Some column.used

-- these are the columns of the header, one for each name
pub record AreRowColumns (plan : PlanParts) (header : Fields) (columns : List Column) : Type 0 where
  pub each : AllZip (IsRowColumn plan) header columns
  pub apart : AreApart columns
