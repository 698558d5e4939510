-- The length of the leading number: these bytes are a number text, and no longer start of the text
-- is one.
use Rattle.std.proofs.Common.{◌≡◌, ℕ, suc, ◌+◌, ◌<◌, ◌≤◌, Bool, true, false, cond, ◌&&◌, eqb, ltb, List, [], ◌∷◌, ◌++◌, length, take, drop, refl, sym, ap, subst, append_assoc, arith, inl, inr}
use Rattle.std.specs.Char.{digit_value, is_ascii_digit}
use Rattle.std.specs.Fmt.{sign_text}
use Rattle.std.specs.Str.Parse.{AllDigits}
use Rattle.std.proofs.Math.Seq.{take-append-add}
use Rattle.std.proofs.lemmas.Str.{digit_value_digit}
use Rattle.std.proofs.lemmas.Str.Parse.{digit_from_value}
use Rattle.std.proofs.lemmas.Bool.{cases_lt, and_parts, eqb-true, ltb-true, lt-ltb}
use Rattle.std.proofs.lemmas.Bool.Decides.{nat_tests}
use Rattle.std.proofs.lemmas.List.{drop_at, length-append, take-append-drop}
use Rattle.std.proofs.lemmas.List.Folds.{length-prefix_len}
use Rattle.fixpoint.specs.NumberText.{IsNumberText, dot_text}
use Rattle.feel_tests.specs.Fronts.{digits_len, fraction_len, unsigned_len, number_len}

-- a byte with the value of a digit has the code of a digit
pub digit_passes : (b : ℕ) → digit_value b < 10 → is_ascii_digit b ≡ true
digit_passes b h =
    let range = digit_from_value b h in
    let low : 48 ≤ b = range.0 in
    let high : b ≤ 57 = range.1 in
    grind (arith, nat_tests)

pub passes_digit : (b : ℕ) → is_ascii_digit b ≡ true → digit_value b < 10
passes_digit b e =
    let low : 48 ≤ b = grind (arith, nat_tests) in
    let high : b ≤ 57 = grind (arith, nat_tests) in
    omega (arith, digit_value_digit b (low, high))

-- leading digits are counted first, and then the digits after them
pub digits_len-append : (ds ys : List ℕ) → AllDigits 10 ds → digits_len (ds ++ ys) ≡ length ds + digits_len ys
digits_len-append [] ys h = omega arith
digits_len-append (d ∷ ds) ys h =
    let more = digits_len-append ds ys h.1 in
    rw (digit_passes d h.0) (omega arith)

-- the counted bytes are digits
digits_take_at : (b : ℕ) (bs : List ℕ) (t : Bool) → is_ascii_digit b ≡ t → AllDigits 10 (take (digits_len bs) bs) → AllDigits 10 (take (cond t (1 + digits_len bs) 0) (b ∷ bs))
digits_take_at b bs true e h = let k : 1 + digits_len bs ≡ suc (digits_len bs) = omega arith in rw k (passes_digit b e, h)
digits_take_at b bs false e h = tt

pub digits_take : (bs : List ℕ) → AllDigits 10 (take (digits_len bs) bs)
digits_take [] = tt
digits_take (b ∷ bs) = digits_take_at b bs (is_ascii_digit b) refl (digits_take bs)

-- ---- no longer start of the text is a number

unsigned_len_is : (bytes rest : List ℕ) (w f : ℕ) → digits_len bytes ≡ w → drop w bytes ≡ rest → fraction_len rest ≡ f → unsigned_len bytes ≡ w + f
unsigned_len_is bytes rest w f whole following fraction = rw (whole, following, fraction) refl

pub unsigned_most : (whole fraction after : List ℕ) → AllDigits 10 whole → AllDigits 10 fraction → length (whole ++ dot_text fraction) ≤ unsigned_len ((whole ++ dot_text fraction) ++ after)
unsigned_most whole [] after hw hf =
    let n : digits_len (whole ++ after) ≡ length whole + digits_len after = digits_len-append whole after hw in
    let l : length (whole ++ []) ≡ length whole + 0 = length-append whole [] in
    let m : length (whole ++ []) ≤ digits_len (whole ++ after) = omega arith in
    rw (append_assoc whole [] after) (omega (arith, m))
unsigned_most whole (d ∷ ds) after hw hf =
    let tail : List ℕ = 46 ∷ d ∷ (ds ++ after) in
    let n : digits_len (whole ++ tail) ≡ length whole = omega (arith, digits_len-append whole tail hw) in
    let k : digits_len (d ∷ (ds ++ after)) ≡ suc (length ds) + digits_len after = digits_len-append (d ∷ ds) after hf in
    let some : ltb 0 (digits_len (d ∷ (ds ++ after))) ≡ true = lt-ltb _ _ (omega (arith, k)) in
    let f : fraction_len tail ≡ 1 + digits_len (d ∷ (ds ++ after)) = rw some refl in
    let u : unsigned_len (whole ++ tail) ≡ length whole + (1 + digits_len (d ∷ (ds ++ after))) = unsigned_len_is (whole ++ tail) tail (length whole) _ n (drop_at whole tail (length whole) refl) f in
    let l : length (whole ++ 46 ∷ d ∷ ds) ≡ length whole + suc (suc (length ds)) = length-append whole (46 ∷ d ∷ ds) in
    let m : length (whole ++ 46 ∷ d ∷ ds) ≤ unsigned_len (whole ++ tail) = omega (arith, u, l, k) in
    rw (append_assoc whole (46 ∷ d ∷ ds) after) m

pub dot_some : (fraction : List ℕ) → 0 < length fraction → dot_text fraction ≡ 46 ∷ fraction
dot_some [] h = absurd (omega arith)
dot_some (d ∷ ds) h = refl

dot_len : (fraction : List ℕ) → length fraction ≤ length (dot_text fraction)
dot_len [] = omega arith
dot_len (d ∷ ds) = omega arith

unsigned_some : (whole fraction : List ℕ) → 0 < length whole + length fraction → 0 < length (whole ++ dot_text fraction)
unsigned_some whole fraction h = omega (arith, length-append whole (dot_text fraction), dot_len fraction)

digit_no_sign : (w : ℕ) → digit_value w < 10 → eqb w 45 ≡ false
digit_no_sign w h = let range = digit_from_value w h in let low : 48 ≤ w = range.0 in grind (arith, nat_tests)

number_most_at : (negative : Bool) (whole fraction after : List ℕ) → AllDigits 10 whole → AllDigits 10 fraction → 0 < length whole + length fraction → length (sign_text negative ++ (whole ++ dot_text fraction)) ≤ number_len ((sign_text negative ++ (whole ++ dot_text fraction)) ++ after)
number_most_at true whole fraction after hw hf some =
    let m : length (whole ++ dot_text fraction) ≤ unsigned_len ((whole ++ dot_text fraction) ++ after) = unsigned_most whole fraction after hw hf in
    let p : 0 < length (whole ++ dot_text fraction) = unsigned_some whole fraction some in
    let t : ltb 0 (unsigned_len ((whole ++ dot_text fraction) ++ after)) ≡ true = lt-ltb _ _ (omega (arith, m, p)) in
    rw t (omega (arith, m))
number_most_at false [] [] after hw hf some = absurd (omega arith)
number_most_at false [] (d ∷ ds) after hw hf some = unsigned_most [] (d ∷ ds) after hw hf
number_most_at false (w ∷ ws) fraction after hw hf some = rw (digit_no_sign w hw.0) (unsigned_most (w ∷ ws) fraction after hw hf)

pub number_most : (other after : List ℕ) → IsNumberText other → length other ≤ number_len (other ++ after)
number_most other after h =
    subst (λ (o : List ℕ). length o ≤ number_len (o ++ after)) (sym h.spelled) (number_most_at h.negative h.whole h.fraction after h.whole_digits h.fraction_digits h.has_digit)

number_some_at : (negative : Bool) (rest : List ℕ) → 0 < length rest → 0 < length (sign_text negative ++ rest)
number_some_at true rest h = omega arith
number_some_at false rest h = h

-- a number text is not empty
pub number_some : (other : List ℕ) → IsNumberText other → 0 < length other
number_some other h = subst (λ (o : List ℕ). 0 < length o) (sym h.spelled) (number_some_at h.negative (h.whole ++ dot_text h.fraction) (unsigned_some h.whole h.fraction h.has_digit))

-- ---- the counted bytes are a number

record FractionOf (n : ℕ) (rest : List ℕ) : Type 0 where
  fraction : List ℕ
  text : take n rest ≡ dot_text fraction
  digits : AllDigits 10 fraction
  some : 0 < n → 0 < length fraction

fraction_at : (b : ℕ) (bs : List ℕ) (t : Bool) → (eqb b 46 && ltb 0 (digits_len bs)) ≡ t → FractionOf (cond t (1 + digits_len bs) 0) (b ∷ bs)
fraction_at b bs true e =
    let parts = and_parts (eqb b 46) (ltb 0 (digits_len bs)) e in
    let dot : b ≡ 46 = eqb-true b 46 parts.0 in
    let n : 0 < digits_len bs = ltb-true 0 (digits_len bs) parts.1 in
    let len : length (take (digits_len bs) bs) ≡ digits_len bs = length-prefix_len is_ascii_digit bs in
    let more : 0 < length (take (digits_len bs) bs) = omega (arith, len, n) in
    let k : 1 + digits_len bs ≡ suc (digits_len bs) = omega arith in
    record {
      fraction = take (digits_len bs) bs;
      text = rw k (rw dot (sym (dot_some (take (digits_len bs) bs) more)));
      digits = digits_take bs;
      some = λ _. more;
    }
fraction_at b bs false e = record { fraction = []; text = refl; digits = tt; some = λ h. absurd (omega (arith, h)) }

fraction_is : (rest : List ℕ) → FractionOf (fraction_len rest) rest
fraction_is [] = record { fraction = []; text = refl; digits = tt; some = λ h. absurd (omega (arith, h)) }
fraction_is (b ∷ bs) = fraction_at b bs (eqb b 46 && ltb 0 (digits_len bs)) refl

record UnsignedOf (bytes : List ℕ) : Type 0 where
  whole : List ℕ
  fraction : List ℕ
  text : bytes ≡ whole ++ dot_text fraction
  whole_digits : AllDigits 10 whole
  fraction_digits : AllDigits 10 fraction
  has_digit : 0 < length whole + length fraction

unsigned_is : (bytes : List ℕ) → 0 < unsigned_len bytes → UnsignedOf (take (unsigned_len bytes) bytes)
unsigned_is bytes h =
    let whole : List ℕ = take (digits_len bytes) bytes in
    let rest : List ℕ = drop (digits_len bytes) bytes in
    let len : length (take (digits_len bytes) bytes) ≡ digits_len bytes = length-prefix_len is_ascii_digit bytes in
    let f = fraction_is (drop (digits_len bytes) bytes) in
    let cut : take (length (take (digits_len bytes) bytes) + fraction_len (drop (digits_len bytes) bytes)) (take (digits_len bytes) bytes ++ drop (digits_len bytes) bytes) ≡ take (digits_len bytes) bytes ++ take (fraction_len (drop (digits_len bytes) bytes)) (drop (digits_len bytes) bytes) = take-append-add (take (digits_len bytes) bytes) (drop (digits_len bytes) bytes) (fraction_len (drop (digits_len bytes) bytes)) in
    let joined : take (digits_len bytes) bytes ++ drop (digits_len bytes) bytes ≡ bytes = take-append-drop (digits_len bytes) bytes in
    record {
      whole = take (digits_len bytes) bytes;
      fraction = f.fraction;
      text = cut_at bytes (take (digits_len bytes) bytes) (drop (digits_len bytes) bytes) (digits_len bytes) (fraction_len (drop (digits_len bytes) bytes)) (dot_text f.fraction) joined len f.text;
      whole_digits = digits_take bytes;
      fraction_digits = f.digits;
      has_digit = unsigned_has (digits_len bytes) (fraction_len (drop (digits_len bytes) bytes)) (length (take (digits_len bytes) bytes)) (length f.fraction) h len f.some;
    }
  where
    cut_at : (bytes front rest : List ℕ) (w f : ℕ) (text : List ℕ) → front ++ rest ≡ bytes → length front ≡ w → take f rest ≡ text → take (w + f) bytes ≡ front ++ text
    cut_at bytes front rest w f text joined len is = rw (← joined, ← len, take-append-add front rest f, is) refl

    unsigned_has : (w f a b : ℕ) → 0 < w + f → a ≡ w → (0 < f → 0 < b) → 0 < a + b
    unsigned_has w f a b h e g = elim (cases_lt 0 f) [
      | inl more ↦ omega (arith, g more)
      | inr less ↦ omega arith
    ]

number_from : (negative : Bool) (bytes : List ℕ) → UnsignedOf bytes → IsNumberText (sign_text negative ++ bytes)
number_from negative bytes u = record {
  negative = negative;
  whole = u.whole;
  fraction = u.fraction;
  spelled = ap (λ (t : List ℕ). sign_text negative ++ t) u.text;
  whole_digits = u.whole_digits;
  fraction_digits = u.fraction_digits;
  has_digit = u.has_digit;
}

number_is_signed : (b : ℕ) (bs : List ℕ) (t : Bool) → b ≡ 45 → ltb 0 (unsigned_len bs) ≡ t → 0 < cond t (1 + unsigned_len bs) 0 → IsNumberText (take (cond t (1 + unsigned_len bs) 0) (b ∷ bs))
number_is_signed b bs true dash e h =
    let n : 0 < unsigned_len bs = ltb-true 0 (unsigned_len bs) e in
    let k : 1 + unsigned_len bs ≡ suc (unsigned_len bs) = omega arith in
    rw k (rw dash (number_from true (take (unsigned_len bs) bs) (unsigned_is bs n)))
number_is_signed b bs false dash e h = absurd (omega arith)

number_is_at : (b : ℕ) (bs : List ℕ) (t : Bool) → eqb b 45 ≡ t → 0 < cond t (cond (ltb 0 (unsigned_len bs)) (1 + unsigned_len bs) 0) (unsigned_len (b ∷ bs)) → IsNumberText (take (cond t (cond (ltb 0 (unsigned_len bs)) (1 + unsigned_len bs) 0) (unsigned_len (b ∷ bs))) (b ∷ bs))
number_is_at b bs true e h = number_is_signed b bs (ltb 0 (unsigned_len bs)) (eqb-true b 45 e) refl h
number_is_at b bs false e h = number_from false (take (unsigned_len (b ∷ bs)) (b ∷ bs)) (unsigned_is (b ∷ bs) h)

pub number_is : (bytes : List ℕ) → 0 < number_len bytes → IsNumberText (take (number_len bytes) bytes)
number_is [] h = absurd (omega arith)
number_is (b ∷ bs) h = number_is_at b bs (eqb b 45) refl h
