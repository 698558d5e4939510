-- The value of tables for an input class: it depends on the regions of the class and not on the
-- values in them. Tables, columns, names and rules are numbered from 0 here.
use Rattle.std.specs.Prelude.{◌≡◌, ℕ, Bool, false, not, List, [], ◌∷◌, ◌++◌, length, filter, position, Option, Some, Ok, IsTrue, Contains, slice_get, Result}
use Rattle.std.specs.List.{list_all, zip, range_with_len}
use Rattle.std.specs.Option.{option_map_or}
use Rattle.feel_tests.specs.declared.cell.Cell.{Cell}
use Rattle.feel_tests.specs.declared.value.Value.{Value}
use Rattle.faults.specs.declared.fault.Fault.{Fault}
use Rattle.tables.specs.declared.environment.Answer.{Answer}
use Rattle.tables.specs.declared.inputs.Slot.{Slot}
use Rattle.tables.specs.declared.table.Input.{Input}
use Rattle.tables.specs.declared.table.Origin.{Origin}
use Rattle.tables.specs.declared.table.Origin.TheVariants.{Given, Earlier}
use Rattle.tables.specs.declared.table.Table.{Table}
use Rattle.tables.specs.Environment.{and_then, answers_of, inside, number_after}
use Rattle.tables.specs.HitPolicy.{TableValue, by_hit}
use Rattle.tables.specs.Inputs.{needs, value_at}
use Rattle.tables.specs.Matching.{earlier_value, holds_of}
use Rattle.tables.specs.Plan.{PlanParts, has_kind}
use Rattle.regions.specs.declared.region.Region.{Region}
use Rattle.regions.specs.Regions.{holds_in, is_in, stretches}
use Rattle.regions.specs.Values.{is_value, sort_values}
use Rattle.cutplan.specs.InputClasses.{name_kind, name_literals}

-- an input class: the region of each name, by the index of the name
abbrev pub Zone : Type 0
Zone = ℕ → Region

-- the cell holds for what an input reads: for the values of a name's region, or for an answer of an
-- earlier table
abbrev pub cell_holds_in : Zone → List (List Answer) → Origin → Cell → Bool
cell_holds_in input_class earlier (Given place) cell = holds_in cell (input_class place)
cell_holds_in input_class earlier (Earlier table column) cell = holds_of (earlier_value earlier table column) cell

abbrev pub cells_hold_in : Zone → List (List Answer) → List Input → List Cell → Bool
cells_hold_in input_class earlier inputs cells = list_all (λ p. cell_holds_in input_class earlier p.0.origin p.1) (zip inputs cells)

-- the rule matches in the input class
abbrev pub rule_matches_in : Zone → List (List Answer) → Table → ℕ → Bool
rule_matches_in input_class earlier t rule = option_map_or (λ r. cells_hold_in input_class earlier t.inputs r.cells) (slice_get t.rules rule) false

abbrev pub matching_in : Zone → List (List Answer) → Table → List ℕ
matching_in input_class earlier t = filter (rule_matches_in input_class earlier t) (range_with_len 0 (length t.rules))

abbrev pub is_outside_in : Zone → List (List Answer) → Input → Bool
is_outside_in input_class earlier input = option_map_or (λ allowed. not (cell_holds_in input_class earlier input.origin allowed)) input.values false

abbrev pub first_outside_in : Zone → List (List Answer) → Table → Option ℕ
first_outside_in input_class earlier t = position (is_outside_in input_class earlier) t.inputs

-- the value of a table for the input class
abbrev pub table_value_in : Zone → List (List Answer) → Table → TableValue
table_value_in input_class earlier t =
    inside (first_outside_in input_class earlier t) (number_after earlier) (by_hit t.hit (number_after earlier) t (matching_in input_class earlier t))

-- the answers of tables for the input class, in order, or the first fault
abbrev pub answers_in : Zone → List (List Answer) → List Table → Result (List (List Answer)) Fault
answers_in input_class earlier [] = Ok earlier
answers_in input_class earlier (t ∷ ts) = and_then (table_value_in input_class earlier t) (λ answers. answers_in input_class (earlier ++ answers ∷ []) ts)

-- the literals of each name include those of the plan, and may include others, such as those of
-- another plan
abbrev pub Covers : PlanParts → (ℕ → List Value) → Type 0
Covers p literals = (place : ℕ) (l : Value) → Contains (name_literals p.tables place) l → Contains (literals place) l

-- the regions into which the literals cut the values of a name
abbrev pub regions_by : PlanParts → (ℕ → List Value) → ℕ → List Region
regions_by p literals place = stretches (name_kind p place) (sort_values (filter (has_kind (name_kind p place)) (literals place)))

-- the name has a value of its kind that lies in the region of the input class; the region is one of
-- those for these literals
pub record LiesInClass (p : PlanParts) (literals : ℕ → List Value) (given : List Slot) (input_class : Zone) (place : ℕ) : Type 0 where
  pub region : Contains (regions_by p literals place) (input_class place)
  pub value : Value
  pub is : value_at given place ≡ Some value
  pub of_kind : IsTrue (is_value (name_kind p place) value)
  pub inside : IsTrue (is_in (input_class place) value)

-- if all inputs that tables read lie in an input class, the tables have the value of the class
abbrev pub ClassesAreValued : Type 0
ClassesAreValued = (p : PlanParts) (literals : ℕ → List Value) (given : List Slot) (input_class : Zone) → Covers p literals
    → ((place : ℕ) → IsTrue (needs p.tables place) → LiesInClass p literals given input_class place)
    → answers_of given [] p.tables ≡ answers_in input_class [] p.tables
