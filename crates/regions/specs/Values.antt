-- The values that a column of a table can have, and their order. A text may have any length here.
use Rattle.std.specs.Prelude.{ℕ, Bool, true, false, not, ◌&&◌, nat_le, List, [], ◌∷◌, slice_get, int_lt, int_le, if◌then◌else◌, fold}
use Rattle.std.specs.List.{list_any}
use Rattle.std.specs.Int.RustNames.{unsigned_abs}
use Rattle.std.specs.Option.{option_map_or}
use Rattle.std.specs.Ordering.{nat_cmp, is_lt}
use Rattle.std.specs.Cmp.Lexicographic.{slice_cmp}
use Rattle.fixpoint.specs.Number.{greatest_units}
use Rattle.feel_tests.specs.DayNumber.{first_day, last_day}
use Rattle.feel_tests.specs.Holds.{is_equal}
use Rattle.feel_tests.specs.declared.kind.Kind.{Kind}
use Rattle.feel_tests.specs.declared.kind.Kind.TheVariants as kinds
use Rattle.feel_tests.specs.declared.value.Value.{Value}
use Rattle.feel_tests.specs.declared.value.Value.TheVariants.{Number, Text, Flag, Day}
use Rattle.tables.specs.declared.table.Origin.{Origin}
use Rattle.tables.specs.declared.table.Origin.TheVariants.{Given, Earlier}
use Rattle.tables.specs.declared.table.Table.{Table}
use Rattle.tables.specs.Plan.{PlanParts, read_kind_of}

-- the kind of the values of an output of an earlier table; each input of a plan reads an output
-- that exists
abbrev pub kind_of_output : List Table → ℕ → ℕ → Kind
kind_of_output tables table column = option_map_or (λ t. option_map_or (λ o. read_kind_of t.hit o.kind) (slice_get t.outputs column) kinds.Number) (slice_get tables table) kinds.Number

-- the kind of the values that an input reads
abbrev pub kind_read : PlanParts → Origin → Kind
kind_read p (Given place) = option_map_or (λ d. d.kind) (slice_get p.names place) kinds.Number
kind_read p (Earlier table column) = kind_of_output p.tables table column

-- the value is of the kind: a number or day in the range of its kind, any text, or a flag
abbrev pub is_value : Kind → Value → Bool
is_value kinds.Number (Number units) = nat_le (unsigned_abs units) greatest_units
is_value kinds.Text (Text bytes) = true
is_value kinds.Flag (Flag flag) = true
is_value kinds.Day (Day day) = int_le first_day day && int_le day last_day
is_value _ _ = false

-- the order of numbers and days, the byte order of texts, and the flag `false` before `true`
abbrev pub is_before : Value → Value → Bool
is_before (Number a) (Number b) = int_lt a b
is_before (Text a) (Text b) = is_lt (slice_cmp nat_cmp a b)
is_before (Flag a) (Flag b) = not a && b
is_before (Day a) (Day b) = int_lt a b
is_before _ _ = false

-- the list with the value inserted before the first greater value
abbrev pub insert_value : Value → List Value → List Value
insert_value v [] = v ∷ []
insert_value v (c ∷ cs) = if is_before v c then v ∷ c ∷ cs else c ∷ insert_value v cs

-- the cuts with one more value, unless it is already among them
abbrev pub with_value : List Value → Value → List Value
with_value cuts v = if list_any (λ c. is_equal c v) cuts then cuts else insert_value v cuts

-- the values in increasing order, without repeats
abbrev pub sort_values : List Value → List Value
sort_values values = fold with_value [] values
