-- The literal of a value denotes that value.
use Rattle.std.proofs.Common.{◌≡◌, ℕ, ◌+◌, ◌<◌, ◌≤◌, Bool, true, false, eqb, ℤ, pos, List, [], ◌∷◌, ◌++◌, length, refl, sym, ap, subst, ◌∙◌, arith}
use Rattle.std.specs.Prelude.{codes}
use Rattle.std.specs.Char.{digit_value}
use Rattle.std.specs.Fmt.{sign_text}
use Rattle.std.specs.Str.Parse.{AllDigits}
use Rattle.std.proofs.lemmas.Str.Parse.{digit_from_value}
use Rattle.std.proofs.lemmas.Bool.{or_from, ne_eqb}
use Rattle.std.proofs.lemmas.Bool.Decides.{nat_tests}
use Rattle.std.proofs.lemmas.List.{append-nil, length-append}
use Rattle.fixpoint.specs.Number.{IsInRange}
use Rattle.fixpoint.specs.NumberText.{IsNumberText, Denotes, ShortestTextDenotes, dot_text, shortest_text}
use Rattle.jiff_core.specs.declared.civil.date.Date.{Date}
use Rattle.jiff_core.specs.Date.{epoch_day}
use Rattle.jiff_core.specs.Calendar.{days_from_civil}
use Rattle.jiff_core.proofs.DateLemmas.{civil}
use Rattle.jiff_core.proofs.CalendarLemmas.{days_in_month_bounds}
use Rattle.feel_tests.specs.TextBytes.{IsText}
use Rattle.feel_tests.specs.DayNumber.{IsDayNumber}
use Rattle.feel_tests.specs.Calendar.{ymd_text, day_text, IsDateText}
use Rattle.feel_tests.specs.Value.{flag_text, date_literal}
use Rattle.feel_tests.specs.Words.{Word, Digits, Quoted, Name, Spells, Begins, is_white, skip_white, escaped_byte, escaped, quote_text}
use Rattle.feel_tests.specs.Grammar.{IsDate}
use Rattle.feel_tests.specs.Cell.{SpellsValue}
use Rattle.feel_tests.specs.declared.symbol.Symbol.TheVariants as symbols
use Rattle.feel_tests.specs.declared.kind.Kind.TheVariants as kinds
use Rattle.feel_tests.specs.declared.value.Value.TheVariants.{Number, Text, Flag, Day}
use Rattle.feel_tests.proofs.FirstWord.{begins_name, begins_sign, begins_quoted}
use Rattle.feel_tests.proofs.QuoteFront.{byte_bare}
use Rattle.feel_tests.proofs.DayText.{year_low, at_year, text_is}

-- a text that is one word begins with it
whole_word : (text : List ℕ) (word : Word) → Spells text word → skip_white text ≡ text → Begins text word []
whole_word text word spelled skipped = record {
  front = text;
  joined = skipped ∙ sym (append-nil text);
  spelled = spelled;
  longest = λ other after longer e also. let len : length text ≡ length (other ++ after) = ap length (sym skipped ∙ e) in omega (arith, len, length-append other after);
}

white_byte : (b : ℕ) (bs : List ℕ) → digit_value b < 10 → skip_white (b ∷ bs) ≡ b ∷ bs
white_byte b bs h =
    let range = digit_from_value b h in
    let low : 48 ≤ b = range.0 in
    let dark : is_white b ≡ false = grind (arith, nat_tests) in
    rw dark refl

white_at : (negative : Bool) (whole fraction : List ℕ) → AllDigits 10 whole → 0 < length whole + length fraction → skip_white (sign_text negative ++ (whole ++ dot_text fraction)) ≡ sign_text negative ++ (whole ++ dot_text fraction)
white_at true whole fraction h some = refl
white_at false [] [] h some = absurd (omega arith)
white_at false [] (d ∷ ds) h some = refl
white_at false (w ∷ ws) fraction h some = white_byte w (ws ++ dot_text fraction) h.0

number_dark : (text : List ℕ) → IsNumberText text → skip_white text ≡ text
number_dark text h = subst (λ (t : List ℕ). skip_white t ≡ t) (sym h.spelled) (white_at h.negative h.whole h.fraction h.whole_digits h.has_digit)

pub number_back : ShortestTextDenotes → (seen units : ℤ) → seen ≡ units → IsInRange seen → SpellsValue kinds.Number (shortest_text units) (Number units)
number_back law seen units is range =
    let d : Denotes (shortest_text units) units = law units (subst IsInRange is range) in
    ([], (refl, shortest_text units, whole_word (shortest_text units) (Digits (shortest_text units)) (refl, d.worth.text) (number_dark (shortest_text units) d.worth.text), d), refl)

pub text_back : (bytes : List ℕ) → IsText bytes → SpellsValue kinds.Text (quote_text bytes) (Text bytes)
text_back bytes h = ([], (refl, whole_word (quote_text bytes) (Quoted bytes) refl refl, h), refl)

pub flag_back : (flag : Bool) → SpellsValue kinds.Flag (flag_text flag) (Flag flag)
flag_back true = ([], (refl, whole_word (flag_text true) (Name (flag_text true)) (refl, (refl, refl)) refl), refl)
flag_back false = ([], (refl, whole_word (flag_text false) (Name (flag_text false)) (refl, (refl, refl)) refl), refl)

-- ---- days

plain_byte : (b : ℕ) → 34 < b → b < 92 → escaped_byte b ≡ b ∷ []
plain_byte b low high = byte_bare b (or_from (eqb b 34) (eqb b 92) (ne_eqb b 34 (λ e. omega (arith, low, e))) (ne_eqb b 92 (λ e. omega (arith, high, e))))

abbrev ArePlain : List ℕ → Type 0
ArePlain [] = Unit {0}
ArePlain (b ∷ bs) = (34 < b) × ((b < 92) × ArePlain bs)

plain_bytes : (bs : List ℕ) → ArePlain bs → escaped bs ≡ bs
plain_bytes [] h = refl
plain_bytes (b ∷ bs) h = let here = plain_byte b h.0 h.1.0 in let more = plain_bytes bs h.1.1 in rw (here, more) refl

ymd_plain : (year month place : ℕ) → year ≤ 9999 → month ≤ 12 → place ≤ 31 → ArePlain (ymd_text year month place)
ymd_plain year month place y m p =
    (omega arith, (omega arith, (omega arith, (omega arith, (omega arith, (omega arith, (omega arith, (omega arith, (omega arith, (omega arith, (omega arith, (omega arith, (omega arith, (omega arith, (omega arith, (omega arith, (omega arith, (omega arith, (omega arith, (omega arith, tt))))))))))))))))))))

date_back : (date : List ℕ) (day : ℤ) → escaped date ≡ date → IsDateText date day → IsDate (codes "date(\"" ++ date ++ codes "\")") day []
date_back date day plain is = record {
  after_word = 40 ∷ 34 ∷ (date ++ 34 ∷ 41 ∷ []);
  after_open = 34 ∷ (date ++ 34 ∷ 41 ∷ []);
  after_string = 41 ∷ [];
  date = date;
  word = begins_name (codes "date(\"" ++ date ++ codes "\")") (codes "date(\"" ++ date ++ codes "\")") refl (omega arith) (omega arith);
  opens = begins_sign (40 ∷ 34 ∷ (date ++ 34 ∷ 41 ∷ [])) (40 ∷ 34 ∷ (date ++ 34 ∷ 41 ∷ [])) symbols.OpenRound refl refl refl;
  string = begins_quoted (34 ∷ (date ++ 34 ∷ 41 ∷ [])) (date ++ 34 ∷ 41 ∷ []) date (41 ∷ []) refl (ap (λ (t : List ℕ). t ++ 34 ∷ 41 ∷ []) (sym plain));
  closes = begins_sign (41 ∷ []) (41 ∷ []) symbols.CloseRound refl refl refl;
  is_date = is;
}

pub day_back : (d : Date) (day : ℤ) → epoch_day d ≡ day → IsDayNumber day → SpellsValue kinds.Day (date_literal day) (Day day)
day_back d day e range =
    let h = civil d in
    let low = year_low d.year d.month d.day h (subst (λ (n : ℤ). IsDayNumber n) (sym e) range) in
    let there = at_year d.year d.month d.day low.0 low.1 h in
    let same : days_from_civil (pos low.0) d.month d.day ≡ day = ap (λ (y : ℤ). days_from_civil y d.month d.day) (sym low.1) ∙ e in
    let spelled : day_text day ≡ ymd_text low.0 d.month d.day = sym (ap day_text same) ∙ text_is low.0 d.month d.day there low.2 low.3 in
    let months = there.1.1 in
    let places = there.2.1 in
    let most = (days_in_month_bounds (pos low.0) d.month).0 in
    let plain = plain_bytes (ymd_text low.0 d.month d.day) (ymd_plain low.0 d.month d.day low.3 months (omega (arith, places, most))) in
    let is : IsDateText (day_text day) day = record { year = low.0; month = d.month; place = d.day; spelled = spelled; year_in = (low.2, low.3); in_calendar = there; number = same } in
    ([], (refl, date_back (day_text day) day (subst (λ (t : List ℕ). escaped t ≡ t) (sym spelled) plain) is), refl)
