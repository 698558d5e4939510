-- Theorems that relate the regions of a column, the gaps and the overlaps to values.
use Rattle.std.specs.Prelude.{◌≡◌, ◌≢◌, ℕ, ◌-◌, ◌≤◌, ◌<◌, ◌↔◌, Bool, List, [], length, map, filter, Some, None, slice_get, IsTrue, Contains, count_by}
use Rattle.std.specs.List.{list_any, list_all, zip}
use Rattle.feel_tests.specs.Holds.{holds}
use Rattle.feel_tests.specs.declared.cell.Cell.{Cell}
use Rattle.feel_tests.specs.declared.kind.Kind.TheVariants as kinds
use Rattle.feel_tests.specs.declared.value.Value.{Value}
use Rattle.tables.specs.declared.environment.Answer.{Answer}
use Rattle.tables.specs.declared.inputs.Slot.{Slot}
use Rattle.tables.specs.declared.table.Rule.{Rule}
use Rattle.tables.specs.declared.table.Table.{Table}
use Rattle.tables.specs.Matching.{value_read, matching, first_outside}
use Rattle.tables.specs.Plan.{PlanParts, has_kind}
use Rattle.regions.specs.declared.region.Region.{Region}
use Rattle.regions.specs.Values.{is_value, is_before}
use Rattle.regions.specs.Regions.{Column, columns, column_literals, regions, is_allowed, is_in}
use Rattle.cutplan.specs.Check.{IsGap, IsOverlap, is_allowed_tuple, fits, rule_cells, lies_in, gaps, overlaps}

-- each allowed value of a column lies in exactly one of its regions
abbrev pub RegionsPartValues : Type 0
RegionsPartValues = (p : PlanParts) (t : Table) (place : ℕ) (column : Column) → slice_get (columns p t) place ≡ Some column
    → (v : Value) → IsTrue (is_allowed column v) → count_by (λ r. is_in r v) (regions column) ≡ 1

-- each region of a column contains an allowed value
abbrev pub RegionsHoldValues : Type 0
RegionsHoldValues = (p : PlanParts) (t : Table) (place : ℕ) (column : Column) → slice_get (columns p t) place ≡ Some column
    → (r : Region) → Contains (regions column) r → (v : Value) × IsTrue (is_allowed column v) × IsTrue (is_in r v)

-- a rule's cell holds for all values of a region or for none
abbrev pub CellsHoldAlike : Type 0
CellsHoldAlike = (p : PlanParts) (t : Table) (place : ℕ) (column : Column) → slice_get (columns p t) place ≡ Some column
    → (rule : Rule) (cell : Cell) → Contains t.rules rule → slice_get rule.cells place ≡ Some cell
    → (r : Region) (v w : Value) → Contains (regions column) r → IsTrue (is_value column.kind v) → IsTrue (is_value column.kind w)
    → IsTrue (is_in r v) → IsTrue (is_in r w) → holds cell v ≡ holds cell w

-- an allowed tuple is a gap if and only if its cell is listed
abbrev pub ReportsGaps : PlanParts → Table → List (List Region) → Type 0
ReportsGaps p t found = (tuple : List Value) → IsTrue (is_allowed_tuple (columns p t) tuple)
    → IsGap p t tuple ↔ IsTrue (list_any (λ cell. lies_in cell tuple) found)

-- for each table, an allowed tuple lies in a listed gap if and only if no rule matches it
abbrev pub GapIffNoRuleMatches : Type 0
GapIffNoRuleMatches = (p : PlanParts) (t : Table) → ReportsGaps p t (gaps p t)

-- a pair of rules, smaller number first, is an overlap if and only if it is listed
abbrev pub ReportsOverlaps : PlanParts → Table → List (ℕ × ℕ) → Type 0
ReportsOverlaps p t found = (first second : ℕ) → 1 ≤ first → first < second → second ≤ length t.rules
    → IsOverlap p t (first, second) ↔ Contains found (first, second)

-- for each table, a pair of rules is listed as an overlap if and only if both match some allowed
-- tuple
abbrev pub OverlapIffTwoRulesMatch : Type 0
OverlapIffTwoRulesMatch = (p : PlanParts) (t : Table) → ReportsOverlaps p t (overlaps p t)

-- the inputs of the table read these values, from the given inputs and the answers of earlier
-- tables
abbrev pub ReadsTuple : List Slot → List (List Answer) → Table → List Value → Type 0
ReadsTuple given earlier t tuple = map (λ i. value_read given earlier i.origin) t.inputs ≡ map (λ v. Some v) tuple

-- each value of the tuple is of its column's kind and in the range of that kind
abbrev pub are_values : List Column → List Value → Bool
are_values columns tuple = list_all (λ c. is_value c.0.kind c.1) (zip columns tuple)

-- a rule fits the values that are read if and only if it is among the matching rules
abbrev pub FitsAreMatches : Type 0
FitsAreMatches = (given : List Slot) (earlier : List (List Answer)) (t : Table) (tuple : List Value) → ReadsTuple given earlier t tuple
    → (place : ℕ) → place < length t.rules → IsTrue (fits (rule_cells t place) tuple) ↔ Contains (matching given earlier t) place

-- values of the columns' kinds that are read are allowed if and only if none is outside
abbrev pub AllowedAreInside : Type 0
AllowedAreInside = (p : PlanParts) (given : List Slot) (earlier : List (List Answer)) (t : Table) (tuple : List Value) → ReadsTuple given earlier t tuple
    → IsTrue (are_values (columns p t) tuple) → IsTrue (is_allowed_tuple (columns p t) tuple) ↔ (first_outside given earlier t ≡ None)

-- values of the columns' kinds that are read lie in a cell among the gaps if and only if none of
-- them is outside and no rule matches
abbrev pub GapsMatchNothing : Type 0
GapsMatchNothing = (p : PlanParts) (given : List Slot) (earlier : List (List Answer)) (t : Table) (tuple : List Value) → ReadsTuple given earlier t tuple
    → IsTrue (are_values (columns p t) tuple) → IsTrue (list_any (λ cell. lies_in cell tuple) (gaps p t)) ↔ ((first_outside given earlier t ≡ None) × (matching given earlier t ≡ []))

-- no value that is read is outside, and both rules, numbered from 1, match
pub record MatchTogether (given : List Slot) (earlier : List (List Answer)) (t : Table) (first second : ℕ) : Type 0 where
  pub inside : first_outside given earlier t ≡ None
  pub one : Contains (matching given earlier t) (first - 1)
  pub other : Contains (matching given earlier t) (second - 1)

-- a pair of rules is among the overlaps if both match what is read, by values of the columns'
-- kinds; conversely, for a pair among the overlaps there is an allowed tuple that both match
-- whenever it is read
pub record ReportsMatches (p : PlanParts) (t : Table) (first second : ℕ) : Type 0 where
  pub listed : (given : List Slot) (earlier : List (List Answer)) (tuple : List Value) → ReadsTuple given earlier t tuple → IsTrue (are_values (columns p t) tuple)
      → MatchTogether given earlier t first second → Contains (overlaps p t) (first, second)
  pub shared : Contains (overlaps p t) (first, second)
      → (tuple : List Value) × IsTrue (is_allowed_tuple (columns p t) tuple)
      × ((given : List Slot) (earlier : List (List Answer)) → ReadsTuple given earlier t tuple → MatchTogether given earlier t first second)

-- this holds for each pair of a table's rules, the smaller number first
abbrev pub OverlapsMatchTogether : Type 0
OverlapsMatchTogether = (p : PlanParts) (t : Table) (first second : ℕ) → 1 ≤ first → first < second → second ≤ length t.rules → ReportsMatches p t first second

-- the cuts of a column of numbers, days or texts are strictly increasing; texts are in byte order
abbrev pub CutsRise : Type 0
CutsRise = (p : PlanParts) (t : Table) (place : ℕ) (column : Column) → slice_get (columns p t) place ≡ Some column → column.kind ≢ kinds.Flag
    → (i j : ℕ) (v w : Value) → i < j → slice_get column.cuts i ≡ Some v → slice_get column.cuts j ≡ Some w → IsTrue (is_before v w)

-- the cuts of a column are the literals of its kind in the cells of its rules and in its allowed
-- values
abbrev pub CutsAreLiterals : Type 0
CutsAreLiterals = (p : PlanParts) (t : Table) (place : ℕ) (column : Column) → slice_get (columns p t) place ≡ Some column
    → (v : Value) → Contains column.cuts v ↔ Contains (filter (has_kind column.kind) (column_literals t place column.values)) v
