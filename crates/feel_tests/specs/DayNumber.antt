-- Days as contracts see them: day numbers, counted from 1 January 1970.
use Rattle.std.specs.Prelude.{ℤ, pos, neg_ℤ, ◌≤ℤ◌}

-- the number of 1 January of the year 1
abbrev pub first_day : ℤ
first_day = neg_ℤ (pos 719162)

-- the number of 31 December of the year 9999
abbrev pub last_day : ℤ
last_day = pos 2932896

-- the number is of a day in the years 1 to 9999
abbrev pub IsDayNumber : ℤ → Type 0
IsDayNumber number = (first_day ≤ℤ number) × (number ≤ℤ last_day)
