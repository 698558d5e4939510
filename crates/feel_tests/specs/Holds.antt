-- When a cell holds for a value (DMN 1.4, S-FEEL, unary tests). Values of different kinds are
-- neither equal nor ordered.
use Rattle.std.specs.Prelude.{Bool, true, false, not, ◌&&◌, if◌then◌else◌, List, int_lt, int_le}
use Rattle.std.specs.List.{list_any}
use Rattle.std.specs.Ordering.{int_eq}
use Rattle.std.specs.Str.{bytes_eq}
use Rattle.feel_tests.specs.declared.value.Value.{Value}
use Rattle.feel_tests.specs.declared.value.Value.TheVariants.{Number, Text, Flag, Day}
use Rattle.feel_tests.specs.declared.cell.Op.TheVariants.{Less, AtMost, More, AtLeast}
use Rattle.feel_tests.specs.declared.cell.Test.{Test}
use Rattle.feel_tests.specs.declared.cell.Test.TheVariants.{Equal, Compare, Between}
use Rattle.feel_tests.specs.declared.cell.Cell.{Cell}
use Rattle.feel_tests.specs.declared.cell.Cell.TheVariants.{Dash, OneOf, NoneOf}

-- both flags are true, or both are false
abbrev pub same_flag : Bool → Bool → Bool
same_flag true b = b
same_flag false b = not b

-- the values are equal
abbrev pub is_equal : Value → Value → Bool
is_equal (Number a) (Number b) = int_eq a b
is_equal (Text a) (Text b) = bytes_eq a b
is_equal (Flag a) (Flag b) = same_flag a b
is_equal (Day a) (Day b) = int_eq a b
is_equal _ _ = false

-- the first number or day is less than the second
abbrev pub is_less : Value → Value → Bool
is_less (Number a) (Number b) = int_lt a b
is_less (Day a) (Day b) = int_lt a b
is_less _ _ = false

-- the first number or day is at most the second
abbrev pub is_at_most : Value → Value → Bool
is_at_most (Number a) (Number b) = int_le a b
is_at_most (Day a) (Day b) = int_le a b
is_at_most _ _ = false

-- the first value is less than the second, or equal to it if the end belongs to the interval
abbrev pub is_below : Bool → Value → Value → Bool
is_below end_in a b = if end_in then is_at_most a b else is_less a b

-- the test holds for the value
abbrev pub passes : Test → Value → Bool
passes (Equal literal) value = is_equal value literal
passes (Compare Less literal) value = is_less value literal
passes (Compare AtMost literal) value = is_at_most value literal
passes (Compare More literal) value = is_less literal value
passes (Compare AtLeast literal) value = is_at_most literal value
passes (Between low low_in high high_in) value = is_below low_in low value && is_below high_in value high

-- at least one of the tests holds for the value
abbrev pub one_passes : List Test → Value → Bool
one_passes tests value = list_any (λ test. passes test value) tests

-- the cell holds for the value: a dash always, a list if at least one test holds, `not` if none
-- does
abbrev pub holds : Cell → Value → Bool
holds Dash value = true
holds (OneOf tests) value = one_passes tests value
holds (NoneOf tests) value = not (one_passes tests value)
