-- Numbers as contracts see them: whole counts of ten-thousandths, called units.
use Rattle.std.specs.Prelude.{ℕ, ℤ, pos, neg_ℤ, Bool, true, false, ◌≤◌}
use Rattle.std.specs.Int.RustNames.{unsigned_abs}

-- the greatest absolute value of a number, in units
abbrev pub greatest_units : ℕ
greatest_units = 999999999999999

-- the units are within the range of a number
abbrev pub IsInRange : ℤ → Type 0
IsInRange units = unsigned_abs units ≤ greatest_units

-- the count as an integer, negated if the flag is true
abbrev pub signed : Bool → ℕ → ℤ
signed false count = pos count
signed true count = neg_ℤ (pos count)

-- the units are below zero
abbrev pub is_negative : ℤ → Bool
is_negative (ℤ.pos n) = false
is_negative (ℤ.negsuc n) = true
