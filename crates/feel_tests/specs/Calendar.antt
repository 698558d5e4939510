-- The date of a day number, in the Gregorian calendar of `jiff`.
use Rattle.std.specs.Prelude.{◌≡◌, ℕ, ◌+◌, ◌/◌, ◌%◌, ℤ, pos, ◌-ℤ◌, int_le, unsigned_abs, List, [], ◌∷◌, ◌++◌, count_by}
use Rattle.std.specs.List.{range_with_len}
use Rattle.std.specs.Int.{IsInRange}
use Rattle.fixpoint.specs.Money.{two_digits}
use Rattle.jiff_core.specs.Calendar.{days_from_civil, IsCivilDate}

-- the number of years, from year 1 to the given last one, that begin on the day or before it
unfoldable pub years_begun : ℕ → ℤ → ℕ
years_begun last day = count_by (λ year. int_le (days_from_civil (pos year) 1 1) day) (range_with_len 1 last)

-- the year of the day: the number of years from 1 to 9999 that begin on the day or before it
unfoldable pub year_of : ℤ → ℕ
year_of day = years_begun 9999 day

-- the month of the day: the number of months of its year that begin on the day or before it
unfoldable pub month_of : ℤ → ℕ
month_of day = count_by (λ month. int_le (days_from_civil (pos (year_of day)) month 1) day) (range_with_len 1 12)

-- the day of the month, from 1
unfoldable pub day_of : ℤ → ℕ
day_of day = unsigned_abs (day -ℤ days_from_civil (pos (year_of day)) (month_of day) 1) + 1

-- a year in four digits
abbrev pub year_text : ℕ → List ℕ
year_text year = two_digits (year / 100) ++ two_digits (year % 100)

-- the four bytes are the digits of this year, 0001 to 9999
pub record HasYearDigits (y3 y2 y1 y0 year : ℕ) : Type 0 where
  pub year_in : IsInRange 1 9999 year
  pub thousands : y3 ≡ 48 + year / 100 / 10
  pub hundreds : y2 ≡ 48 + year / 100 % 10
  pub tens : y1 ≡ 48 + year % 100 / 10
  pub ones : y0 ≡ 48 + year % 100 % 10

-- the text is this year, 0001 to 9999, in four digits
pub record IsYearText (text : List ℕ) (year : ℕ) : Type 0 where
  pub spelled : text ≡ year_text year
  pub year_in : IsInRange 1 9999 year

-- a date as `YYYY-MM-DD`
abbrev pub ymd_text : ℕ → ℕ → ℕ → List ℕ
ymd_text year month day =
    two_digits (year / 100) ++ two_digits (year % 100) ++ 45 ∷ [] ++ two_digits month ++ 45 ∷ [] ++ two_digits day

-- the text of a day, as `YYYY-MM-DD`
abbrev pub day_text : ℤ → List ℕ
day_text day = ymd_text (year_of day) (month_of day) (day_of day)

-- the text is the date `YYYY-MM-DD` of the day with this number, in the years 1 to 9999
pub record IsDateText (text : List ℕ) (day : ℤ) : Type 0 where
  pub year : ℕ
  pub month : ℕ
  pub place : ℕ
  pub spelled : text ≡ ymd_text year month place
  pub year_in : IsInRange 1 9999 year
  pub in_calendar : IsCivilDate (pos year) month place
  pub number : days_from_civil (pos year) month place ≡ day
