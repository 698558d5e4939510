-- A text is the date of at most one day.
use Rattle.std.proofs.Common.{◌≡◌, ℕ, ◌+◌, ◌*◌, ◌/◌, ◌%◌, ◌<◌, ◌≤◌, ℤ, pos, List, length, get_or, Option, Some, None, refl, sym, ap, subst, ◌∙◌, arith}
use Rattle.std.specs.Int.{IsInRange}
use Rattle.std.specs.Prelude.{IfSome, IfNone, SomeIff}
use Rattle.std.proofs.lemmas.Int.{ints}
use Rattle.std.proofs.lemmas.Slice.Eq.{text_from_reads}
use Rattle.jiff_core.specs.Calendar.{days_from_civil, IsCivilDate, IsDate}
use Rattle.jiff_core.proofs.CalendarLemmas.{days_in_month_bounds}
use Rattle.feel_tests.specs.DayNumber.{IsDayNumber}
use Rattle.feel_tests.specs.Calendar.{year_text, ymd_text, HasYearDigits, IsDateText, IsYearText}
use Rattle.feel_tests.proofs.DayText.{number_in}

two_one : (a b : ℕ) → 48 + a / 10 ≡ 48 + b / 10 → 48 + a % 10 ≡ 48 + b % 10 → a ≡ b
two_one a b e f = omega arith

hundred_one : (a b : ℕ) → a / 100 ≡ b / 100 → a % 100 ≡ b % 100 → a ≡ b
hundred_one a b e f = omega arith

read_at : (xs ys : List ℕ) (k : ℕ) → xs ≡ ys → get_or xs k 0 ≡ get_or ys k 0
read_at xs ys k e = ap (λ (t : List ℕ). get_or t k 0) e

-- a text has at most one year, month and day
pub ymd_one : (year month place years months places : ℕ) → ymd_text year month place ≡ ymd_text years months places → (year ≡ years) × (month ≡ months) × (place ≡ places)
ymd_one year month place years months places e =
    let xs = ymd_text year month place in
    let ys = ymd_text years months places in
    let century : year / 100 ≡ years / 100 = two_one (year / 100) (years / 100) (read_at xs ys 0 e) (read_at xs ys 1 e) in
    let decade : year % 100 ≡ years % 100 = two_one (year % 100) (years % 100) (read_at xs ys 2 e) (read_at xs ys 3 e) in
    (hundred_one year years century decade, two_one month months (read_at xs ys 5 e) (read_at xs ys 6 e), two_one place places (read_at xs ys 8 e) (read_at xs ys 9 e))

same_day : (year month place years months places : ℕ) → year ≡ years → month ≡ months → place ≡ places → days_from_civil (pos year) month place ≡ days_from_civil (pos years) months places
same_day year month place years months places y m d = rw (y, m, d) refl

pub date_one : (text : List ℕ) (day other : ℤ) → IsDateText text day → IsDateText text other → day ≡ other
date_one text day other h k =
    let one = ymd_one h.year h.month h.place k.year k.month k.place (sym h.spelled ∙ k.spelled) in
    sym h.number ∙ same_day h.year h.month h.place k.year k.month k.place one.0 one.1 one.2 ∙ k.number

-- two numbers below 100 are the digits of a year, unless both are 0
pub year_found : (century rest y3 y2 y1 y0 : ℕ) → 1 ≤ century + rest → century < 100 → rest < 100 → y3 ≡ 48 + century / 10 → y2 ≡ 48 + century % 10 → y1 ≡ 48 + rest / 10 → y0 ≡ 48 + rest % 10 → HasYearDigits y3 y2 y1 y0 (century * 100 + rest)
year_found century rest y3 y2 y1 y0 some high low a b c d =
    let front : (century * 100 + rest) / 100 ≡ century = omega arith in
    let back : (century * 100 + rest) % 100 ≡ rest = omega arith in
    record { year_in = (omega arith, omega arith); thousands = rw front a; hundreds = rw front b; tens = rw back c; ones = rw back d }

-- four bytes that are the digits of a year
year_read : (text : List ℕ) (year : ℕ) → length text ≡ 4 → HasYearDigits (get_or text 0 0) (get_or text 1 0) (get_or text 2 0) (get_or text 3 0) year → IsYearText text year
year_read text year len h = record {
  spelled = text_from_reads text (year_text year) len (h.thousands, (h.hundreds, (h.tens, (h.ones, tt))));
  year_in = h.year_in;
}

year_digits : (text : List ℕ) (year : ℕ) → IsYearText text year → HasYearDigits (get_or text 0 0) (get_or text 1 0) (get_or text 2 0) (get_or text 3 0) year
year_digits text year h =
    let ys = year_text year in
    record { year_in = h.year_in; thousands = read_at text ys 0 h.spelled; hundreds = read_at text ys 1 h.spelled; tens = read_at text ys 2 h.spelled; ones = read_at text ys 3 h.spelled }

pub years_read : (text : List ℕ) (found : Option ℕ) → length text ≡ 4 → IfSome found (HasYearDigits (get_or text 0 0) (get_or text 1 0) (get_or text 2 0) (get_or text 3 0)) → IfSome found (IsYearText text)
years_read text None len h = tt
years_read text (Some year) len h = year_read text year len h

pub years_apart : (text : List ℕ) (found : Option ℕ) → IfNone found ((year : ℕ) → ¬ HasYearDigits (get_or text 0 0) (get_or text 1 0) (get_or text 2 0) (get_or text 3 0) year) → IfNone found ((year : ℕ) → ¬ IsYearText text year)
years_apart text None h = λ year is. h year (year_digits text year is)
years_apart text (Some year) h = tt

-- ten bytes that are the digits and dashes of a date
pub ymd_read : (text : List ℕ) (year month place : ℕ) → length text ≡ 10 → HasYearDigits (get_or text 0 0) (get_or text 1 0) (get_or text 2 0) (get_or text 3 0) year → get_or text 4 0 ≡ 45 → get_or text 5 0 ≡ 48 + month / 10 → get_or text 6 0 ≡ 48 + month % 10 → get_or text 7 0 ≡ 45 → get_or text 8 0 ≡ 48 + place / 10 → get_or text 9 0 ≡ 48 + place % 10 → text ≡ ymd_text year month place
ymd_read text year month place len y e f g h i j =
    text_from_reads text (ymd_text year month place) len (y.thousands, (y.hundreds, (y.tens, (y.ones, (e, (f, (g, (h, (i, (j, tt))))))))))

-- the digits of a date are those of its year, its month and its day
pub ymd_year : (text : List ℕ) (year month place : ℕ) → IsInRange 1 9999 year → text ≡ ymd_text year month place → HasYearDigits (get_or text 0 0) (get_or text 1 0) (get_or text 2 0) (get_or text 3 0) year
ymd_year text year month place range e =
    let ys = ymd_text year month place in
    record { year_in = range; thousands = read_at text ys 0 e; hundreds = read_at text ys 1 e; tens = read_at text ys 2 e; ones = read_at text ys 3 e }

pub ymd_month : (text : List ℕ) (year month place : ℕ) → text ≡ ymd_text year month place → (get_or text 5 0 ≡ 48 + month / 10) × (get_or text 6 0 ≡ 48 + month % 10)
ymd_month text year month place e = let ys = ymd_text year month place in (read_at text ys 5 e, read_at text ys 6 e)

pub ymd_place : (text : List ℕ) (year month place : ℕ) → text ≡ ymd_text year month place → (get_or text 8 0 ≡ 48 + place / 10) × (get_or text 9 0 ≡ 48 + place % 10)
ymd_place text year month place e = let ys = ymd_text year month place in (read_at text ys 8 e, read_at text ys 9 e)

civil_is_date : (year : ℤ) (month place : ℕ) → IsCivilDate year month place → IsDate year (pos month) (pos place)
civil_is_date year month place h = (h.0, (omega (arith, ints, h.1.0), omega (arith, ints, h.1.1)), (omega (arith, ints, h.2.0), omega (arith, ints, h.2.1)))

pub no_civil : (text : List ℕ) (year month place : ℕ) (y m p : ℤ) → text ≡ ymd_text year month place → y ≡ pos year → m ≡ pos month → p ≡ pos place → (IsDate y m p → ⊥) → (day : ℤ) → ¬ IsDateText text day
no_civil text year month place y m p e years months places none day h =
    let one = ymd_one year month place h.year h.month h.place (sym e ∙ h.spelled) in
    none (seen y m p (pos year) (pos month) (pos place) years months places (civil_is_date (pos year) month place (at_same h.year h.month h.place year month place (sym one.0) (sym one.1) (sym one.2) h.in_calendar)))
  where
    seen : (y m p years months places : ℤ) → y ≡ years → m ≡ months → p ≡ places → IsDate years months places → IsDate y m p
    seen y m p years months places e f g h = rw (e, f, g) h

    at_same : (y m p years months places : ℕ) → y ≡ years → m ≡ months → p ≡ places → IsCivilDate (pos y) m p → IsCivilDate (pos years) months places
    at_same y m p years months places e f g h = rw (← e, ← f, ← g) h

pub no_ymd : (text : List ℕ) → ((year month place : ℕ) → IsInRange 1 9999 year → month < 100 → place < 100 → ¬ (text ≡ ymd_text year month place)) → (day : ℤ) → ¬ IsDateText text day
no_ymd text none day h =
    let months = h.in_calendar.1.1 in
    let places = h.in_calendar.2.1 in
    let most = (days_in_month_bounds (pos h.year) h.month).0 in
    none h.year h.month h.place h.year_in (omega (arith, months)) (omega (arith, places, most)) h.spelled

-- the date of a text
pub date_found : (text : List ℕ) (year month place : ℕ) (y : ℤ) (m p : ℕ) (number : ℤ) → text ≡ ymd_text year month place → IsInRange 1 9999 year → y ≡ pos year → pos m ≡ pos month → pos p ≡ pos place → IsCivilDate y m p → number ≡ days_from_civil y m p → IsDateText text number
date_found text year month place y m p number e range years months places h is =
    let ms : m ≡ month = pos_one m month months in
    let ps : p ≡ place = pos_one p place places in
    record {
      year = year;
      month = month;
      place = place;
      spelled = e;
      year_in = range;
      in_calendar = there y m p (pos year) month place years ms ps h;
      number = rw (← years, ← ms, ← ps) (sym is);
    }
  where
    pos_one : (a b : ℕ) → pos a ≡ pos b → a ≡ b
    pos_one a b e = cc

    there : (y : ℤ) (m p : ℕ) (years : ℤ) (months places : ℕ) → y ≡ years → m ≡ months → p ≡ places → IsCivilDate y m p → IsCivilDate years months places
    there y m p years months places e f g h = rw (← e, ← f, ← g) h

-- a day number in range is found
pub found_day : (text : List ℕ) (found : Option ℤ) (number : ℤ) → SomeIff found (IsDayNumber number) number → IsDateText text number → IfSome found (IsDateText text)
found_day text None number h is = tt
found_day text (Some day) number h is = subst (λ (n : ℤ). IsDateText text n) (sym h.1) is

-- a day number out of range is not found
pub lost_day : (text : List ℕ) (year month place : ℕ) (y : ℤ) (m p : ℕ) (number : ℤ) → text ≡ ymd_text year month place → y ≡ pos year → pos m ≡ pos month → pos p ≡ pos place → number ≡ days_from_civil y m p → ¬ IsDayNumber number → (day : ℤ) → ¬ IsDateText text day
lost_day text year month place y m p number e years months places is none day h =
    let one = ymd_one year month place h.year h.month h.place (sym e ∙ h.spelled) in
    let ms : m ≡ month = pos_one m month months in
    let ps : p ≡ place = pos_one p place places in
    let same : number ≡ day = is ∙ moved y m p (pos year) month place years ms ps ∙ same_day year month place h.year h.month h.place one.0 one.1 one.2 ∙ h.number in
    none (subst (λ (n : ℤ). IsDayNumber n) (h.number ∙ sym same) (number_in h.year h.month h.place h.in_calendar h.year_in.0 h.year_in.1))
  where
    pos_one : (a b : ℕ) → pos a ≡ pos b → a ≡ b
    pos_one a b e = cc

    moved : (y : ℤ) (m p : ℕ) (years : ℤ) (months places : ℕ) → y ≡ years → m ≡ months → p ≡ places → days_from_civil y m p ≡ days_from_civil years months places
    moved y m p years months places e f g = rw (e, f, g) refl

pub found_none : (text : List ℕ) (found : Option ℤ) (number : ℤ) → SomeIff found (IsDayNumber number) number → (¬ IsDayNumber number → (day : ℤ) → ¬ IsDateText text day) → IfNone found ((day : ℤ) → ¬ IsDateText text day)
found_none text None number h f = f h
found_none text (Some day) number h f = tt
