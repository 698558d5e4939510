-- The date of a day number: its year, its month and its day of the month.
use Rattle.std.proofs.Common.{◌≡◌, ℕ, zero, suc, ◌+◌, ◌-◌, ◌<◌, ◌≤◌, inl, inr, Bool, true, false, cond, refl, sym, ap, subst, ◌∙◌, arith, ℤ, pos, negsuc, ◌+ℤ◌, ◌-ℤ◌, ◌<ℤ◌, ◌≤ℤ◌, unsigned_abs}
use Rattle.std.specs.Prelude.{int_le, count_by}
use Rattle.std.specs.List.{range_with_len}
use Rattle.std.specs.Int.{IsInRange}
use Rattle.std.proofs.lemmas.Bool.{cases_lt, le-leb, lt-leb}
use Rattle.std.proofs.lemmas.Int.{ints}
use Rattle.std.proofs.lemmas.List.Sums.{sum_by-cons}
use Rattle.jiff_core.specs.declared.civil.date.Date.{Date}
use Rattle.jiff_core.specs.Date.{epoch_day}
use Rattle.jiff_core.proofs.DateLemmas.{civil, days_from_civil-day}
use Rattle.jiff.specs.Words.{date_text}
use Rattle.jiff_core.specs.Calendar.{days_from_civil, day_count, IsCivilDate}
use Rattle.jiff_core.proofs.CalendarLemmas.{days_from_civil-day_count, days_in_month_bounds, day_count-lt_year, day_count-lt_month, day_count-day, day_count-end}
use Rattle.jiff_core.proofs.MarchLemmas.{day_count-early}
use Rattle.jiff_core.proofs.SignedLemmas.{signed_arith}
use borrow.Author.Differences.{up, down}
use Rattle.feel_tests.specs.DayNumber.{IsDayNumber}
use Rattle.feel_tests.specs.Calendar.{years_begun, year_of, month_of, day_of, ymd_text, day_text}

test_true : (a b : ℤ) → a ≤ℤ b → int_le a b ≡ true
test_true (pos m) (pos n) h = le-leb m n (omega (arith, ints, h))
test_true (pos m) (negsuc n) h = absurd (omega (arith, ints, h))
test_true (negsuc m) (pos n) h = refl
test_true (negsuc m) (negsuc n) h = le-leb n m (omega (arith, ints, h))

test_false : (a b : ℤ) → b <ℤ a → int_le a b ≡ false
test_false (pos m) (pos n) h = lt-leb m n (omega (arith, ints, h))
test_false (pos m) (negsuc n) h = refl
test_false (negsuc m) (pos n) h = absurd (omega (arith, ints, h))
test_false (negsuc m) (negsuc n) h = lt-leb n m (omega (arith, ints, h))

abbrev counted : Bool → ℕ
counted t = cond t 1 0

none_if : (t : Bool) → t ≡ false → counted t ≡ 0
none_if t e = rw e refl

one_if : (t : Bool) → t ≡ true → counted t ≡ 1
one_if t e = rw e refl

count_cons : (p : ℕ → Bool) (a n : ℕ) → count_by p (range_with_len a (suc n)) ≡ counted (p a) + count_by p (range_with_len (a + 1) n)
count_cons p a n = sum_by-cons (λ x. cond (p x) 1 0) a (range_with_len (a + 1) n)

count_none : (p : ℕ → Bool) (top : ℕ) → ((k : ℕ) → top < k → p k ≡ false) → (a n : ℕ) → top < a → count_by p (range_with_len a n) ≡ 0
count_none p top miss a zero h = refl
count_none p top miss a (suc n) h =
    let more = count_none p top miss (a + 1) n (omega arith) in
    let here = none_if (p a) (miss a h) in
    let all = count_cons p a n in
    omega (arith, more, here, all)

count_upto : (p : ℕ → Bool) (top : ℕ) → ((k : ℕ) → 1 ≤ k → k ≤ top → p k ≡ true) → ((k : ℕ) → top < k → p k ≡ false) → (a n : ℕ) → 1 ≤ a → a ≤ top + 1 → top < a + n → count_by p (range_with_len a n) + a ≡ top + 1
count_upto p top hit miss a zero low high reach = omega arith
count_upto p top hit miss a (suc n) low high reach =
    elim (cases_lt top a) [
      | inl above ↦ (let none = count_none p top miss a (suc n) above in omega (arith, none))
      | inr within ↦ (let more = count_upto p top hit miss (a + 1) n (omega arith) (omega arith) (omega arith) in let here = one_if (p a) (hit a low within) in let all = count_cons p a n in omega (arith, more, here, all))
    ]

days_le : (y : ℤ) (m d : ℕ) (years : ℤ) (months days : ℕ) → day_count y m d ≤ day_count years months days → days_from_civil y m d ≤ℤ days_from_civil years months days
days_le y m d years months days h = omega (arith, signed_arith, days_from_civil-day_count y m d, days_from_civil-day_count years months days, h)

days_lt : (y : ℤ) (m d : ℕ) (years : ℤ) (months days : ℕ) → day_count y m d < day_count years months days → days_from_civil y m d <ℤ days_from_civil years months days
days_lt y m d years months days h = omega (arith, signed_arith, days_from_civil-day_count y m d, days_from_civil-day_count years months days, h)

first_is : day_count (pos 1) 1 1 ≡ 3652791
first_is = day_count-early (pos 1) 10000 1 1 refl (omega arith) (omega arith) (omega arith)

before_first : (y : ℤ) (m d : ℕ) → IsCivilDate y m d → IsDayNumber (days_from_civil y m d) → y <ℤ pos 1 → ⊥
before_first y m d h range lt =
    let less = day_count-lt_year y m d (pos 1) 1 1 h (omega arith) lt in
    omega (arith, signed_arith, less, first_is, days_from_civil-day_count y m d, range.0)

-- a day number in range has a year of at least 1
pub year_low : (y : ℤ) (m d : ℕ) → IsCivilDate y m d → IsDayNumber (days_from_civil y m d) → (year : ℕ) × (y ≡ pos year) × (1 ≤ year) × (year ≤ 9999)
year_low (pos zero) m d h range = absurd (before_first (pos zero) m d h range (omega (arith, ints)))
year_low (pos (suc n)) m d h range = (suc n, refl, omega arith, omega (arith, ints, h.0.1))
year_low (negsuc n) m d h range = absurd (before_first (negsuc n) m d h range (omega (arith, ints)))

first_in : (year k : ℕ) → 1 ≤ k → k ≤ year → year ≤ 9999 → IsCivilDate (pos k) 1 1
first_in year k low high most = ((omega (arith, ints), omega (arith, ints)), (omega arith, omega arith), (omega arith, omega (arith, (days_in_month_bounds (pos k) 1).1)))

year_starts : (year m d k : ℕ) → IsCivilDate (pos year) m d → year ≤ 9999 → 1 ≤ k → k ≤ year → day_count (pos k) 1 1 ≤ day_count (pos year) m d
year_starts year m d k h most low high =
    elim (cases_lt k year) [
      | inl less ↦ (let lt = day_count-lt_year (pos k) 1 1 (pos year) m d (first_in year k low high most) h.2.0 (omega (arith, ints, less)) in omega (arith, lt))
      | inr same ↦ first_day_le k year m d (omega arith) h (first_in year k low high most)
    ]
  where
    first_day_le : (k year m d : ℕ) → k ≡ year → IsCivilDate (pos year) m d → IsCivilDate (pos k) 1 1 → day_count (pos k) 1 1 ≤ day_count (pos year) m d
    first_day_le k year m d e h f = rw e (elim (cases_lt 1 m) [
      | inl later ↦ (let lt = day_count-lt_month (pos year) 1 1 m d (subst (λ (n : ℕ). IsCivilDate (pos n) 1 1) e f) h.2.0 later in omega (arith, lt))
      | inr first ↦ (let one : m ≡ 1 = omega (arith, h.1.0) in rw one (let day = day_count-day (pos year) 1 1 d (omega arith) h.2.0 in omega (arith, day, h.2.0)))
    ])

year_begun : (year m d k : ℕ) → IsCivilDate (pos year) m d → year ≤ 9999 → 1 ≤ k → k ≤ year → int_le (days_from_civil (pos k) 1 1) (days_from_civil (pos year) m d) ≡ true
year_begun year m d k h most low high =
    test_true (days_from_civil (pos k) 1 1) (days_from_civil (pos year) m d) (days_le (pos k) 1 1 (pos year) m d (year_starts year m d k h most low high))

-- a date of the years 1 to 9999 has a day number in range
pub number_in : (year m d : ℕ) → IsCivilDate (pos year) m d → 1 ≤ year → year ≤ 9999 → IsDayNumber (days_from_civil (pos year) m d)
number_in year m d h low most =
    let count = days_from_civil-day_count (pos year) m d in
    let starts = year_starts year m d 1 h most (omega arith) low in
    let ends = day_count-lt_year (pos year) m d (pos 10000) 1 1 h (omega arith) (omega (arith, ints, most)) in
    (omega (arith, signed_arith, starts, first_is, count), omega (arith, signed_arith, ends, day_count-end, count))

one_less : (a b : ℕ) → a + 1 ≡ b + 1 → a ≡ b
one_less a b e = omega arith

years_are : (n year m d : ℕ) → n ≡ 9999 → IsCivilDate (pos year) m d → 1 ≤ year → year ≤ 9999 → years_begun n (days_from_civil (pos year) m d) ≡ year
unfolding years_begun
years_are n year m d last h low most =
    one_less (count_by (λ k. int_le (days_from_civil (pos k) 1 1) (days_from_civil (pos year) m d)) (range_with_len 1 n)) year
    (count_upto (λ k. int_le (days_from_civil (pos k) 1 1) (days_from_civil (pos year) m d)) year (λ k l u. year_begun year m d k h most l u) (λ k u. test_false (days_from_civil (pos k) 1 1) (days_from_civil (pos year) m d) (days_lt (pos year) m d (pos k) 1 1 (day_count-lt_year (pos year) m d (pos k) 1 1 h (omega arith) (omega (arith, ints, u))))) 1 n (omega arith) (omega arith) (omega arith))

year_is : (year m d : ℕ) → IsCivilDate (pos year) m d → 1 ≤ year → year ≤ 9999 → year_of (days_from_civil (pos year) m d) ≡ year
unfolding year_of
year_is year m d h low most = years_are 9999 year m d refl h low most

month_begun : (y : ℤ) (m d k : ℕ) → IsCivilDate y m d → 1 ≤ k → k ≤ m → int_le (days_from_civil y k 1) (days_from_civil y m d) ≡ true
month_begun y m d k h low high =
    test_true (days_from_civil y k 1) (days_from_civil y m d) (days_le y k 1 y m d (elim (cases_lt k m) [
      | inl less ↦ (let lt = day_count-lt_month y k 1 m d (h.0, (low, omega (arith, h.1.1, less)), (omega arith, omega (arith, (days_in_month_bounds y k).1))) h.2.0 less in omega (arith, lt))
      | inr same ↦ (let e : k ≡ m = omega arith in rw e (let day = day_count-day y m 1 d (omega arith) h.2.0 in omega (arith, day, h.2.0)))
    ]))

month_is : (year m d : ℕ) → IsCivilDate (pos year) m d → 1 ≤ year → year ≤ 9999 → month_of (days_from_civil (pos year) m d) ≡ m
unfolding month_of
month_is year m d h low most =
    let here = year_is year m d h low most in
    let count = count_upto (λ k. int_le (days_from_civil (pos year) k 1) (days_from_civil (pos year) m d)) m (λ k l u. month_begun (pos year) m d k h l u) (λ k u. test_false (days_from_civil (pos year) k 1) (days_from_civil (pos year) m d) (days_lt (pos year) m d (pos year) k 1 (day_count-lt_month (pos year) m d k 1 h (omega arith) u))) 1 12 (omega arith) (omega arith) (omega (arith, h.1.1)) in
    rw here (omega (arith, count))

abs_of : (z : ℤ) (k : ℕ) → up z ≡ down z + k → unsigned_abs z ≡ k
abs_of (pos n) k e = omega (arith, e)
abs_of (negsuc n) k e = absurd (omega (arith, e))

abs_gap : (a b : ℤ) (d : ℕ) → a +ℤ pos 1 ≡ b +ℤ pos d → 1 ≤ d → unsigned_abs (a -ℤ b) + 1 ≡ d
abs_gap a b d e low =
    let gap : up (a -ℤ b) ≡ down (a -ℤ b) + (d - 1) = omega (arith, signed_arith, e, ap up e, ap down e) in
    let k = abs_of (a -ℤ b) (d - 1) gap in
    omega (arith, k, low)

place_is : (year m d : ℕ) → IsCivilDate (pos year) m d → 1 ≤ year → year ≤ 9999 → day_of (days_from_civil (pos year) m d) ≡ d
unfolding day_of
place_is year m d h low most =
    rw (year_is year m d h low most, month_is year m d h low most)
    (abs_gap (days_from_civil (pos year) m d) (days_from_civil (pos year) m 1) d (days_from_civil-day (pos year) m d 1 h.2.0 (omega arith)) h.2.0)

-- the text of a date is the text of its day number
pub text_is : (year m d : ℕ) → IsCivilDate (pos year) m d → 1 ≤ year → year ≤ 9999 → day_text (days_from_civil (pos year) m d) ≡ ymd_text year m d
text_is year m d h low most = rw (year_is year m d h low most, month_is year m d h low most, place_is year m d h low most) refl

civil_text : (d : Date) (year : ℕ) → d.year ≡ pos year → date_text d ≡ ymd_text year d.month d.day
civil_text d year e = rw e refl

pub at_year : (y : ℤ) (m p year : ℕ) → y ≡ pos year → IsCivilDate y m p → IsCivilDate (pos year) m p
at_year y m p year e h = subst (λ (z : ℤ). IsCivilDate z m p) e h

-- the calendar's text of a date is the text of its day number
pub date_text_is : (d : Date) (number : ℤ) → epoch_day d ≡ number → IsDayNumber number → date_text d ≡ day_text number
date_text_is d number e range =
    let h = civil d in
    let low = year_low d.year d.month d.day h (subst (λ (n : ℤ). IsDayNumber n) (sym e) range) in
    let there = at_year d.year d.month d.day low.0 low.1 h in
    let same : days_from_civil (pos low.0) d.month d.day ≡ number = ap (λ (y : ℤ). days_from_civil y d.month d.day) (sym low.1) ∙ e in
    civil_text d low.0 low.1 ∙ sym (text_is low.0 d.month d.day there low.2 low.3) ∙ ap day_text same

-- a date and its day number have the same year
dated : (d : Date) (number : ℤ) → epoch_day d ≡ number → IsDayNumber number → (year : ℕ) × (d.year ≡ pos year) × (year_of number ≡ year) × IsInRange 1 9999 year
dated d number e range =
    let h = civil d in
    let (year, is, low, most) = year_low d.year d.month d.day h (subst (λ (n : ℤ). IsDayNumber n) (sym e) range) in
    let same : days_from_civil (pos year) d.month d.day ≡ number = ap (λ (y : ℤ). days_from_civil y d.month d.day) (sym is) ∙ e in
    (year, is, sym (ap year_of same) ∙ year_is year d.month d.day (at_year d.year d.month d.day year is h) low most, (low, most))

-- the year of a date is the year of its day number
pub date_year_is : (d : Date) (number : ℤ) → epoch_day d ≡ number → IsDayNumber number → d.year ≡ pos (year_of number)
date_year_is d number e range =
    let (year, of_date, of_number, within) = dated d number e range in
    of_date ∙ ap pos (sym of_number)

-- the year of a date in range is one of the years 1 to 9999
pub year_within : (d : Date) (number : ℤ) → epoch_day d ≡ number → IsDayNumber number → IsInRange 1 9999 (unsigned_abs d.year)
year_within d number e range =
    let (year, of_date, of_number, within) = dated d number e range in
    rw of_date within
