-- What the tables of a plan do in an input class up to their first fault: their answers, the rules
-- that give them, and the tests of cells that are met. `specs/Dead.antt` says the same of values.
use Rattle.std.specs.Prelude.{ℕ, ◌==◌, ◌&&◌, Bool, false, nat_le, List, [], ◌∷◌, ◌++◌, length, take, slice_get, Ok, Err}
use Rattle.std.specs.List.{list_any}
use Rattle.std.specs.Option.{is_none, option_map_or}
use Rattle.feel_tests.specs.declared.cell.Cell.TheVariants.{OneOf}
use Rattle.tables.specs.declared.environment.Answer.{Answer}
use Rattle.tables.specs.declared.table.Table.{Table}
use Rattle.tables.specs.HitPolicy.{TableValue}
use Rattle.cutplan.specs.ClassWise.{Zone, cell_holds_in, first_outside_in, matching_in, table_value_in}
use Rattle.plan_zones.specs.declared.rule_place.RulePlace.{RulePlace}
use Rattle.plan_zones.specs.declared.rule_place.TestPlace.{TestPlace}
use Rattle.plan_zones.specs.Giving.{giving}
use Rattle.plan_zones.specs.RulePlaces.{test_at}

-- continues with the answers of a table, or stops at its fault
abbrev pub until_fault : {X : Type 0} → TableValue → (List Answer → List X) → List X
until_fault (Ok answers) next = next answers
until_fault (Err fault) next = []

-- the answers of tables before the first fault
abbrev pub answered_in : Zone → List (List Answer) → List Table → List (List Answer)
answered_in input_class earlier [] = []
answered_in input_class earlier (t ∷ ts) = until_fault (table_value_in input_class earlier t) (λ answers. answers ∷ answered_in input_class (earlier ++ answers ∷ []) ts)

-- for each of these tables, the rules that give its answers
abbrev pub giving_in : Zone → List (List Answer) → List Table → List (List ℕ)
giving_in input_class earlier [] = []
giving_in input_class earlier (t ∷ ts) =
    until_fault (table_value_in input_class earlier t) (λ answers. giving t.hit t (matching_in input_class earlier t) answers ∷ giving_in input_class (earlier ++ answers ∷ []) ts)

-- the rule is among these
abbrev pub has_rule : ℕ → List ℕ → Bool
has_rule rule rules = list_any (λ other. other == rule) rules

-- the rule is among those that give the answers of its table
abbrev pub is_giving : List (List ℕ) → RulePlace → Bool
is_giving given place = option_map_or (has_rule place.rule) (slice_get given place.table) false

-- the rule gives the answer of its table, or a part of it
abbrev pub gives_in : Zone → List Table → RulePlace → Bool
gives_in input_class tables place = is_giving (giving_in input_class [] tables) place

-- the test holds for what its column reads, and no column of the table is outside
abbrev pub meets_after : Zone → List Table → List (List Answer) → TestPlace → Table → Bool
meets_after input_class tables earlier place t =
    is_none (first_outside_in input_class earlier t)
    && option_map_or (λ input. option_map_or (λ test. cell_holds_in input_class earlier input.origin (OneOf (test ∷ []))) (test_at tables place) false) (slice_get t.inputs place.column) false

-- the test is met where the tables before its own have these answers
abbrev pub meets_by : Zone → List Table → List (List Answer) → TestPlace → Bool
meets_by input_class tables earlier place = option_map_or (meets_after input_class tables earlier place) (slice_get tables place.rule.table) false

-- the test is met by what the tables before its own answer, if all of them do
abbrev pub is_met : Zone → List Table → List (List Answer) → TestPlace → Bool
is_met input_class tables answered place =
    nat_le place.rule.table (length answered) && meets_by input_class tables (take place.rule.table answered) place

-- the test is met
abbrev pub meets_in : Zone → List Table → TestPlace → Bool
meets_in input_class tables place = is_met input_class tables (answered_in input_class [] tables) place
