-- Steps of the check and of the compilation of columns.
use Rattle.std.specs.Prelude.{ℕ, ◌-◌, ◌≡◌, ◌==◌, nat_le, Bool, true, false, not, ◌&&◌, ◌||◌, List, [], ◌∷◌, ◌++◌, map, filter, length, drop, Option, Some, None, slice_get, IsTrue, if◌then◌else◌}
use Rattle.std.specs.List.{list_any, list_all, All, AllZip}
use Rattle.std.specs.Option.{option_map_or}
use Rattle.feel_tests.specs.Holds.{holds}
use Rattle.feel_tests.specs.declared.cell.Cell.{Cell}
use Rattle.feel_tests.specs.declared.kind.Kind.{Kind}
use Rattle.feel_tests.specs.declared.value.Value.{Value}
use Rattle.tables.specs.declared.table.Rule.{Rule}
use Rattle.tables.specs.declared.table.Table.{Table}
use Rattle.regions.specs.declared.region.Region.{Region}
use Rattle.regions.specs.declared.region.Region.TheVariants.{Below, At, Between, Above, Other, Every}
use Rattle.tables.specs.Plan.{has_kind}
use Rattle.cutplan.specs.Masks.{has_rule, Marks}
use Rattle.regions.specs.Regions.{rule_literals, least_like, next, holds_in}
use Rattle.regions.specs.Values.{is_before, sort_values}
use Rattle.cutplan.specs.Check.{covers, holds_at, rule_cells}

-- the literals with one more, if it is of the kind
abbrev pub with_literal : Kind → List Value → Value → List Value
with_literal kind literals v = if has_kind kind v then literals ++ v ∷ [] else literals

-- each value is of the kind and before all later ones
abbrev pub rises : Kind → List Value → Bool
rises kind [] = true
rises kind (v ∷ vs) = (has_kind kind v && list_all (is_before v) vs) && rises kind vs

-- the values are of the kind
abbrev pub AreOfKind : Kind → List Value → Type 0
AreOfKind kind values = All (λ v. IsTrue (has_kind kind v)) values

-- the value lies strictly between the cuts before and at the index, as far as they exist
abbrev pub fits_at : List Value → ℕ → Value → Bool
fits_at cuts place v = option_map_or (λ cut. is_before v cut) (slice_get cuts place) true && (place == 0 || option_map_or (λ cut. is_before cut v) (slice_get cuts (place - 1)) true)

-- the value is of the kind, and it lies strictly between the cuts before and at the index
abbrev pub is_located_at : Kind → List Value → ℕ → Value → Bool
is_located_at kind cuts place v = (has_kind kind v && nat_le place (length cuts)) && fits_at cuts place v

-- the literals of the kind in a rule's cell of a column, in increasing order
abbrev pub own_cuts : Kind → ℕ → Rule → List Value
own_cuts kind column rule = sort_values (filter (has_kind kind) (rule_literals column rule))

-- the cell holds for the value; a missing cell holds for every value
abbrev pub cell_holds : Option Cell → Value → Bool
cell_holds cell v = option_map_or (λ c. holds c v) cell true

-- the cell holds in the region; a missing cell holds everywhere
abbrev pub cell_holds_in : Option Cell → Region → Bool
cell_holds_in cell region = option_map_or (λ c. holds_in c region) cell true

-- the cells of a column, rule by rule
abbrev pub column_cells : Table → ℕ → List (Option Cell)
column_cells t column = map (λ r. slice_get r.cells column) t.rules

-- the rule at the index exists, and its cell holds in the region
abbrev pub holds_among : List (Option Cell) → Region → ℕ → Bool
holds_among cells region place = option_map_or (λ cell. cell_holds_in cell region) (slice_get cells place) false

-- the masks of regions by the cells of a column, rule by rule
abbrev pub AreMasksBy : List (Option Cell) → List Region → List (List ℕ) → Type 0
AreMasksBy cells regions masks = AllZip (λ region mask. Marks (holds_among cells region) mask) regions masks

-- the first value of a region; a region of other texts or of all values has none
abbrev pub first_value : Region → Option Value
first_value (Below cut) = least_like cut
first_value (At v) = Some v
first_value (Between low high) = next low
first_value (Above cut) = next cut
first_value (Other names) = None
first_value Every = None

-- a probe of a rule's cell: its cuts, and an answer that is correct for every value strictly
-- between the cuts before and at the index
pub record IsAsked (rule : Rule) (column : ℕ) (kind : Kind) (cuts : List Value) (place : ℕ) (answer : Option Bool) : Type 0 where
  pub own : cuts ≡ own_cuts kind column rule
  pub known : (found : Bool) → answer ≡ Some found → (v : Value) → IsTrue (is_located_at kind cuts place v) → cell_holds (slice_get rule.cells column) v ≡ found

-- none of the rules covers these regions with its cells from the column on
abbrev pub uncovered : Table → ℕ → List ℕ → List Region → Bool
uncovered t column rules cell = not (list_any (λ rule. covers (drop column (rule_cells t rule)) cell) rules)

-- the rules whose cell in the column holds in the region
abbrev pub alive_in : Table → ℕ → Region → List ℕ → List ℕ
alive_in t column region rules = filter (λ rule. holds_at t rule column region) rules

-- one of the masks has both rules
abbrev pub share : List (List ℕ) → ℕ → ℕ → Bool
share masks first second = list_any (λ mask. has_rule mask first && has_rule mask second) masks

-- every column has a mask with both rules
abbrev pub share_all : List (List (List ℕ)) → ℕ → ℕ → Bool
share_all columns first second = list_all (λ masks. share masks first second) columns
