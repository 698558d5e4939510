-- The columns of a table, and the regions into which the literals of a column cut its values.
use Rattle.std.specs.Prelude.{ℕ, ◌+◌, Bool, true, false, not, ◌&&◌, nat_le, List, [], ◌∷◌, ◌++◌, map, filter, flat_map, Option, Some, None, slice_get, neg_ℤ, ◌+ℤ◌, pos, int_le, if◌then◌else◌}
use Rattle.std.specs.List.{list_any}
use Rattle.std.specs.Option.{option_map_or}
use Rattle.std.specs.Int.{int_max}
use Rattle.std.specs.Int.RustNames.{unsigned_abs}
use Rattle.feel_tests.specs.Value.{kind_of}
use Rattle.fixpoint.specs.Number.{greatest_units}
use Rattle.feel_tests.specs.DayNumber.{first_day, last_day}
use Rattle.feel_tests.specs.Holds.{is_equal, is_less, holds}
use Rattle.feel_tests.specs.declared.cell.Cell.{Cell}
use Rattle.feel_tests.specs.declared.cell.Cell.TheVariants.{Dash, OneOf, NoneOf}
use Rattle.feel_tests.specs.declared.cell.Test.{Test}
use Rattle.feel_tests.specs.declared.cell.Test.TheVariants.{Equal, Compare, Between as Interval}
use Rattle.feel_tests.specs.declared.kind.Kind.{Kind}
use Rattle.feel_tests.specs.declared.kind.Kind.TheVariants as kinds
use Rattle.feel_tests.specs.declared.value.Value.{Value}
use Rattle.feel_tests.specs.declared.value.Value.TheVariants.{Number, Flag, Day}
use Rattle.tables.specs.declared.table.Input.{Input}
use Rattle.tables.specs.declared.table.Rule.{Rule}
use Rattle.tables.specs.declared.table.Table.{Table}
use Rattle.tables.specs.Plan.{PlanParts, has_kind}
use Rattle.regions.specs.declared.region.Region.{Region}
use Rattle.regions.specs.declared.region.Region.TheVariants.{Below, At, Between, Above, Other, Every}
use Rattle.regions.specs.Values.{kind_read, is_value, sort_values}

-- the literals of a test
abbrev pub test_literals : Test → List Value
test_literals (Equal literal) = literal ∷ []
test_literals (Compare op literal) = literal ∷ []
test_literals (Interval low low_in high high_in) = low ∷ high ∷ []

-- the literals of a cell
abbrev pub literals : Cell → List Value
literals Dash = []
literals (OneOf tests) = flat_map test_literals tests
literals (NoneOf tests) = flat_map test_literals tests

-- the literals of a rule's cell in a column
abbrev pub rule_literals : ℕ → Rule → List Value
rule_literals column rule = option_map_or literals (slice_get rule.cells column) []

-- all literals of a column: those in the cells of its rules and in its allowed values
abbrev pub column_literals : Table → ℕ → Option Cell → List Value
column_literals t column values = flat_map (rule_literals column) t.rules ++ option_map_or literals values []

-- a column: the kind of its values, its cuts in increasing order, and its allowed values if they
-- are restricted
pub record Column : Type 0 where
  pub kind : Kind
  pub cuts : List Value
  pub values : Option Cell

-- the column of an input
abbrev pub column_of : PlanParts → Table → ℕ → Input → Column
column_of p t column input = record {
  kind = kind_read p input.origin;
  cuts = sort_values (filter (has_kind (kind_read p input.origin)) (column_literals t column input.values));
  values = input.values;
}

-- the columns of these inputs; the first input has the index `place` in the table
abbrev pub columns_from : PlanParts → Table → ℕ → List Input → List Column
columns_from p t place [] = []
columns_from p t place (i ∷ is) = column_of p t place i ∷ columns_from p t (place + 1) is

-- the columns of a table
abbrev pub columns : PlanParts → Table → List Column
columns p t = columns_from p t 0 t.inputs

-- the value is of the column's kind and among its allowed values
abbrev pub is_allowed : Column → Value → Bool
is_allowed column v = is_value column.kind v && option_map_or (λ cell. holds cell v) column.values true

-- the regions from a cut upwards: each cut, the values between two adjacent cuts, and the values
-- above the last cut
abbrev pub from_cut : Value → List Value → List Region
from_cut low [] = At low ∷ Above low ∷ []
from_cut low (high ∷ more) = At low ∷ Between low high ∷ from_cut high more

-- the regions of numbers or days: the values below the first cut, and the regions from the first
-- cut upwards; without cuts, all values are one region
abbrev pub regions_of_order : List Value → List Region
regions_of_order [] = Every ∷ []
regions_of_order (c ∷ cs) = Below c ∷ from_cut c cs

-- the regions of texts: each named text, and all other texts
abbrev pub regions_of_names : List Value → List Region
regions_of_names [] = Every ∷ []
regions_of_names (c ∷ cs) = map At (c ∷ cs) ++ Other (c ∷ cs) ∷ []

-- all regions of the kind for these cuts, including regions that contain no value
abbrev pub stretches : Kind → List Value → List Region
stretches kinds.Number cuts = regions_of_order cuts
stretches kinds.Text cuts = regions_of_names cuts
stretches kinds.Flag cuts = At (Flag false) ∷ At (Flag true) ∷ []
stretches kinds.Day cuts = regions_of_order cuts

-- the value lies in the region
abbrev pub is_in : Region → Value → Bool
is_in (Below cut) v = is_less v cut
is_in (At cut) v = is_equal v cut
is_in (Between low high) v = is_less low v && is_less v high
is_in (Above cut) v = is_less cut v
is_in (Other names) v = not (list_any (λ name. is_equal v name) names)
is_in Every v = true

-- the least number or day in the range of its kind
abbrev pub least_like : Value → Option Value
least_like (Number units) = Some (Number (neg_ℤ (pos greatest_units)))
least_like (Day day) = Some (Day first_day)
least_like _ = None

-- the value, if it is a number or day in the range of its kind
abbrev pub in_range : Value → Option Value
in_range (Number units) = if nat_le (unsigned_abs units) greatest_units then Some (Number units) else None
in_range (Day day) = if int_le first_day day && int_le day last_day then Some (Day day) else None
in_range _ = None

-- the next number or day, if it is in the range of its kind
abbrev pub next : Value → Option Value
next (Number units) = in_range (Number (int_max (neg_ℤ (pos greatest_units)) (units +ℤ pos 1)))
next (Day day) = in_range (Day (int_max first_day (day +ℤ pos 1)))
next _ = None

-- the cell holds for a value that none of its tests names
abbrev pub is_open : Cell → Bool
is_open Dash = true
is_open (OneOf tests) = false
is_open (NoneOf tests) = true

-- the cell holds for the value; it does not hold for a missing value
abbrev pub holds_of : Cell → Option Value → Bool
holds_of cell found = option_map_or (holds cell) found false

-- the cell holds for the values of the region; the first of them is tested, or a value that no test
-- names
abbrev pub holds_in : Cell → Region → Bool
holds_in cell (Below cut) = holds_of cell (least_like cut)
holds_in cell (At v) = holds cell v
holds_in cell (Between low high) = holds_of cell (next low)
holds_in cell (Above cut) = holds_of cell (next cut)
holds_in cell (Other names) = is_open cell
holds_in cell Every = is_open cell

-- the region contains a value
abbrev pub has_value : Region → Bool
has_value (Below cut) = option_map_or (λ v. is_less v cut) (least_like cut) false
has_value (At v) = is_value (kind_of v) v
has_value (Between low high) = option_map_or (λ v. is_less v high) (next low) false
has_value (Above cut) = option_map_or (λ v. true) (next cut) false
has_value (Other names) = true
has_value Every = true

-- the region contains an allowed value
abbrev pub is_listed : Option Cell → Region → Bool
is_listed values region = has_value region && option_map_or (λ cell. holds_in cell region) values true

-- the regions of a column that contain an allowed value, in order
abbrev pub regions : Column → List Region
regions column = filter (is_listed column.values) (stretches column.kind column.cuts)

-- the regions of each column of a table
abbrev pub table_regions : PlanParts → Table → List (List Region)
table_regions p t = map regions (columns p t)
