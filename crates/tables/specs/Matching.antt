-- The rules of a table that match (DMN 1.4, decision tables). Tables, rules and columns are
-- numbered from 0 here.
use Rattle.std.specs.Prelude.{ℕ, Bool, false, not, List, length, filter, position, Option, Some, None, slice_get}
use Rattle.std.specs.List.{list_all, zip, range_with_len}
use Rattle.std.specs.Option.{option_and_then, option_map_or}
use Rattle.feel_tests.specs.declared.cell.Cell.{Cell}
use Rattle.feel_tests.specs.declared.value.Value.{Value}
use Rattle.feel_tests.specs.Holds.{holds}
use Rattle.tables.specs.declared.inputs.Slot.{Slot}
use Rattle.tables.specs.declared.environment.Answer.{Answer}
use Rattle.tables.specs.declared.environment.Answer.TheVariants.{One, Many}
use Rattle.tables.specs.declared.table.Origin.{Origin}
use Rattle.tables.specs.declared.table.Origin.TheVariants.{Given, Earlier}
use Rattle.tables.specs.declared.table.Input.{Input}
use Rattle.tables.specs.declared.table.Table.{Table}
use Rattle.tables.specs.Inputs.{value_at}

-- the value of an answer that is not a list
abbrev pub single : Answer → Option Value
single (One value) = Some value
single (Many values) = None

-- the single value of an output of an earlier table
abbrev pub earlier_value : List (List Answer) → ℕ → ℕ → Option Value
earlier_value earlier table column = option_and_then (λ answers. option_and_then single (slice_get answers column)) (slice_get earlier table)

-- the value that an input reads, from the given values or from the answers of earlier tables
abbrev pub value_read : List Slot → List (List Answer) → Origin → Option Value
value_read given earlier (Given place) = value_at given place
value_read given earlier (Earlier table column) = earlier_value earlier table column

-- the cell holds for the value; it does not hold for a missing value
abbrev pub holds_of : Option Value → Cell → Bool
holds_of None cell = false
holds_of (Some value) cell = holds cell value

-- each cell holds for the value that its input reads
abbrev pub cells_hold : List Slot → List (List Answer) → List Input → List Cell → Bool
cells_hold given earlier inputs cells = list_all (λ p. holds_of (value_read given earlier p.0.origin) p.1) (zip inputs cells)

-- the rule matches
abbrev pub rule_matches : List Slot → List (List Answer) → Table → ℕ → Bool
rule_matches given earlier t rule = option_map_or (λ r. cells_hold given earlier t.inputs r.cells) (slice_get t.rules rule) false

-- the rules that match, in rule order
abbrev pub matching : List Slot → List (List Answer) → Table → List ℕ
matching given earlier t = filter (rule_matches given earlier t) (range_with_len 0 (length t.rules))

-- the input has allowed values, and the value that it reads is not among them
abbrev pub is_outside : List Slot → List (List Answer) → Input → Bool
is_outside given earlier input = option_map_or (λ allowed. not (holds_of (value_read given earlier input.origin) allowed)) input.values false

-- the first column whose value is outside its allowed values
abbrev pub first_outside : List Slot → List (List Answer) → Table → Option ℕ
first_outside given earlier t = position (is_outside given earlier) t.inputs
