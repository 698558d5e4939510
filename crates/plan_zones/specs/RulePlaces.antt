-- The rules of a plan and the tests of their cells, by where they are. Tables, rules, columns and the
-- tests of a cell are numbered from 0.
use Rattle.std.specs.Prelude.{ℕ, List, [], length, map, flat_map, Option, slice_get}
use Rattle.std.specs.List.{range_with_len}
use Rattle.std.specs.Option.{option_and_then, option_map_or}
use Rattle.feel_tests.specs.declared.cell.Cell.{Cell}
use Rattle.feel_tests.specs.declared.cell.Cell.TheVariants.{Dash, OneOf, NoneOf}
use Rattle.feel_tests.specs.declared.cell.Test.{Test}
use Rattle.tables.specs.declared.table.Rule.{Rule}
use Rattle.tables.specs.declared.table.Table.{Table}
use Rattle.plan_zones.specs.declared.rule_place.RulePlace.{RulePlace}
use Rattle.plan_zones.specs.declared.rule_place.TestPlace.{TestPlace}

-- a rule of a table
abbrev pub rule_at : ℕ → ℕ → RulePlace
rule_at table rule = record { table = table; rule = rule }

-- the number of rules of the table at an index
abbrev pub rule_count : List Table → ℕ → ℕ
rule_count tables table = option_map_or (λ t. length t.rules) (slice_get tables table) 0

-- the rules of the table at an index, in order
abbrev pub table_rules : List Table → ℕ → List RulePlace
table_rules tables table = map (rule_at table) (range_with_len 0 (rule_count tables table))

-- all rules of these tables, in order
abbrev pub all_rules : List Table → List RulePlace
all_rules tables = flat_map (table_rules tables) (range_with_len 0 (length tables))

-- the rule at a place
abbrev pub rule_in : List Table → RulePlace → Option Rule
rule_in tables place = option_and_then (λ t. slice_get t.rules place.rule) (slice_get tables place.table)

-- the tests of a cell, in the order of its text
abbrev pub tests_of : Cell → List Test
tests_of Dash = []
tests_of (OneOf tests) = tests
tests_of (NoneOf tests) = tests

-- the tests of a rule's cell in a column
abbrev pub tests_at : List Table → RulePlace → ℕ → List Test
tests_at tables place column = option_map_or (λ r. option_map_or tests_of (slice_get r.cells column) []) (rule_in tables place) []

-- the number of a rule's cells
abbrev pub cell_count : List Table → RulePlace → ℕ
cell_count tables place = option_map_or (λ r. length r.cells) (rule_in tables place) 0

-- a test of a rule's cell in a column
abbrev pub test_in : RulePlace → ℕ → ℕ → TestPlace
test_in rule column test = record { rule = rule; column = column; test = test }

-- the tests of a rule's cell in a column, in order
abbrev pub cell_tests : List Table → RulePlace → ℕ → List TestPlace
cell_tests tables rule column = map (test_in rule column) (range_with_len 0 (length (tests_at tables rule column)))

-- the tests of a rule's cells, in order
abbrev pub rule_tests : List Table → RulePlace → List TestPlace
rule_tests tables rule = flat_map (cell_tests tables rule) (range_with_len 0 (cell_count tables rule))

-- the tests of the cells of all rules, in order
abbrev pub all_tests : List Table → List TestPlace
all_tests tables = flat_map (rule_tests tables) (all_rules tables)

-- the test at a place
abbrev pub test_at : List Table → TestPlace → Option Test
test_at tables place = slice_get (tests_at tables place.rule place.column) place.test
