-- A text is a number text in at most one way.
use Rattle.std.proofs.Common.{◌≡◌, ◌≢◌, ℕ, ◌+◌, ◌<◌, zero, suc, Bool, true, false, inl, inr, List, [], ◌∷◌, ◌++◌, length, get_or, take, drop, refl, sym, ap, ◌∙◌, subst, take-append-drop, arith}
use Rattle.std.proofs.lemmas.Bool.{cases_lt}
use Rattle.std.proofs.lemmas.List.{drop_more, drop_all}
use Rattle.std.proofs.lemmas.Str.Parse.{digit_from_value}
use Rattle.std.specs.Prelude.{⊤}
use Rattle.std.specs.Char.{digit_value}
use Rattle.std.specs.Fmt.{sign_text}
use Rattle.std.specs.Str.Parse.{AllDigits}
use Rattle.fixpoint.specs.NumberText.{dot_text, IsNumberText}
use Rattle.fixpoint.specs.Reading.{BeginsWithDigits, HasParts, IsDotTextOf, IsNoDotText}

-- the bytes do not begin with a digit
abbrev pub StartsNoDigit : List ℕ → Type 0
StartsNoDigit [] = ⊤
StartsNoDigit (c ∷ cs) = ¬ (digit_value c < 10)

pub StartsNoDigit-dot_text : (ds : List ℕ) → StartsNoDigit (dot_text ds)
StartsNoDigit-dot_text [] = tt
StartsNoDigit-dot_text (d ∷ ds) = λ h. omega (arith, h)

pub same_digits : (w v r s : List ℕ) → AllDigits 10 w → AllDigits 10 v → StartsNoDigit r → StartsNoDigit s → w ++ r ≡ v ++ s → (w ≡ v) × (r ≡ s)
same_digits [] [] r s p q m n e = (refl, e)
same_digits [] (d ∷ v) r s p q m n e = absurd (subst StartsNoDigit e m q.0)
same_digits (c ∷ w) [] r s p q m n e = absurd (subst StartsNoDigit (sym e) n p.0)
same_digits (c ∷ w) (d ∷ v) r s p q m n e =
    let tails : w ++ r ≡ v ++ s = cc in
    let heads : c ≡ d = cc in
    let rest = same_digits w v r s p.1 q.1 m n tails in
    (ap (λ x. x ∷ w) heads ∙ ap (λ l. d ∷ l) rest.0, rest.1)

same_sign : (n m : Bool) (xs ys : List ℕ) → get_or xs 0 0 ≢ 45 → (m ≡ false → get_or ys 0 0 ≢ 45)
    → sign_text n ++ xs ≡ sign_text m ++ ys → (n ≡ m) × (xs ≡ ys)
same_sign true true xs ys p q e = (refl, ap (drop 1) e)
same_sign true false xs ys p q e = absurd (q refl (ap (λ l. get_or l 0 0) (sym e)))
same_sign false true xs ys p q e = absurd (p (ap (λ l. get_or l 0 0) e))
same_sign false false xs ys p q e = (refl, e)

no_dash : (whole fraction : List ℕ) → AllDigits 10 whole → get_or (whole ++ dot_text fraction) 0 0 ≢ 45
no_dash [] [] p = λ e. omega arith
no_dash [] (d ∷ ds) p = λ e. omega arith
no_dash (c ∷ cs) fraction p = let digit = digit_from_value c p.0 in λ e. omega (arith, digit)

-- the text begins with its sign and its whole part, and the rest is its fraction with the dot
pub same_front : (bytes : List ℕ) (negative : Bool) (whole rest : List ℕ)
    → bytes ≡ sign_text negative ++ (whole ++ rest) → (negative ≡ false → get_or bytes 0 0 ≢ 45)
    → AllDigits 10 whole → StartsNoDigit rest
    → (t : IsNumberText bytes) → (t.negative ≡ negative) × (t.whole ≡ whole) × (dot_text t.fraction ≡ rest)
same_front bytes negative whole rest e dash digits stops t =
    let first = same_sign t.negative negative (t.whole ++ dot_text t.fraction) (whole ++ rest) (no_dash t.whole t.fraction t.whole_digits)
    (λ positive. subst (λ l. get_or l 0 0 ≢ 45) (e ∙ ap (λ b. sign_text b ++ (whole ++ rest)) positive) (dash positive))
    (sym t.spelled ∙ e) in
    let second = same_digits t.whole whole (dot_text t.fraction) rest t.whole_digits digits (StartsNoDigit-dot_text t.fraction) stops first.1 in
    (first.0, second.0, second.1)

pub same_from_dot_text : (xs ys : List ℕ) → dot_text xs ≡ dot_text ys → xs ≡ ys
same_from_dot_text [] [] e = refl
same_from_dot_text [] (y ∷ ys) e = absurd (cc)
same_from_dot_text (x ∷ xs) [] e = absurd (cc)
same_from_dot_text (x ∷ xs) (y ∷ ys) e = ap (drop 1) e

-- two readings of one text have the same parts
pub same_parts : (bytes : List ℕ) (t u : IsNumberText bytes) → (t.negative ≡ u.negative) × (t.whole ≡ u.whole) × (t.fraction ≡ u.fraction)
same_parts bytes t u =
    let front = same_front bytes u.negative u.whole (dot_text u.fraction) u.spelled
    (λ positive. subst (λ l. get_or l 0 0 ≢ 45) (sym (u.spelled ∙ ap (λ b. sign_text b ++ (u.whole ++ dot_text u.fraction)) positive)) (no_dash u.whole u.fraction u.whole_digits))
    u.whole_digits (StartsNoDigit-dot_text u.fraction) t in
    (front.0, front.1, same_from_dot_text t.fraction u.fraction front.2)

-- ---- results of the steps of reading

-- no digit follows the leading digits
pub stops_after : (bytes : List ℕ) (n : ℕ) → BeginsWithDigits bytes n → StartsNoDigit (drop n bytes)
stops_after bytes n h = elim (cases_lt n (length bytes)) [
  | inl below ↦
      subst StartsNoDigit (sym (drop_more bytes n 0 below)) (h.stops below)
  | inr past ↦ subst StartsNoDigit (sym (drop_all n bytes past)) tt
]

no_dot_text : (bytes fraction : List ℕ) → 0 < length bytes → AllDigits 10 fraction → bytes ≡ dot_text fraction
    → (get_or bytes 0 0 ≡ 46) × (0 < length (drop 1 bytes)) × AllDigits 10 (drop 1 bytes)
no_dot_text bytes [] some digits e = absurd (omega (arith, ap length e))
no_dot_text bytes (d ∷ ds) some digits e =
    (ap (λ l. get_or l 0 0) e, subst (λ l. 0 < length (drop 1 l)) (sym e) (omega arith), subst (λ l. AllDigits 10 (drop 1 l)) (sym e) digits)

digit_within : (ds : List ℕ) (n : ℕ) → AllDigits 10 ds → n < length ds → digit_value (get_or ds n 0) < 10
digit_within [] n h p = absurd (omega arith)
digit_within (d ∷ ds) zero h p = h.0
digit_within (d ∷ ds) (suc n) h p = digit_within ds n h.1 (omega arith)

-- a text that is not empty is not a fraction with its dot if one of the three tests fails
pub IsNoDotText-from_first : (bytes : List ℕ) → 0 < length bytes → get_or bytes 0 0 ≢ 46 → IsNoDotText bytes
IsNoDotText-from_first bytes some other fraction digits e = other (no_dot_text bytes fraction some digits e).0

pub IsNoDotText-from_empty : (bytes : List ℕ) → 0 < length bytes → length (drop 1 bytes) ≡ 0 → IsNoDotText bytes
IsNoDotText-from_empty bytes some none fraction digits e = omega (arith, none, (no_dot_text bytes fraction some digits e).1)

pub IsNoDotText-from_rest : (bytes : List ℕ) (n : ℕ) → 0 < length bytes → BeginsWithDigits (drop 1 bytes) n → n ≢ length (drop 1 bytes) → IsNoDotText bytes
IsNoDotText-from_rest bytes n some begins short fraction digits e =
    let inside : n < length (drop 1 bytes) = omega (arith, begins.within, short) in
    begins.stops inside (digit_within (drop 1 bytes) n (no_dot_text bytes fraction some digits e).2 inside)

-- ---- a text as a sign, digits and a rest

read_front : (bytes : List ℕ) (negative : Bool) (digits : List ℕ) (n : ℕ) → bytes ≡ sign_text negative ++ digits → (negative ≡ false → get_or bytes 0 0 ≢ 45)
    → BeginsWithDigits digits n → (t : IsNumberText bytes) → (t.negative ≡ negative) × (t.whole ≡ take n digits) × (dot_text t.fraction ≡ drop n digits)
read_front bytes negative digits n joined dash begins =
    same_front bytes negative (take n digits) (drop n digits) (joined ∙ ap (λ l. sign_text negative ++ l) (sym (take-append-drop n digits))) dash
    begins.digits (stops_after digits n begins)

-- a text is not a number text if its rest after the digits is neither empty nor a fraction
pub no_text-from_rest : (bytes : List ℕ) (negative : Bool) (digits : List ℕ) (n : ℕ) → bytes ≡ sign_text negative ++ digits → (negative ≡ false → get_or bytes 0 0 ≢ 45)
    → BeginsWithDigits digits n → IsNoDotText (drop n digits) → ¬ IsNumberText bytes
no_text-from_rest bytes negative digits n joined dash begins none t =
    none t.fraction t.fraction_digits (sym (read_front bytes negative digits n joined dash begins t).2)

pub HasParts-from_front : (bytes : List ℕ) (negative : Bool) (digits : List ℕ) (n : ℕ) → bytes ≡ sign_text negative ++ digits
    → BeginsWithDigits digits n → (fraction : List ℕ) → IsDotTextOf (drop n digits) fraction → 0 < length (take n digits) + length fraction
    → HasParts bytes negative (take n digits) fraction
HasParts-from_front bytes negative digits n joined begins fraction dot some = record {
  text = record {
    negative = negative;
    whole = take n digits;
    fraction = fraction;
    spelled = joined ∙ ap (λ l. sign_text negative ++ l) (sym (take-append-drop n digits) ∙ ap (λ l. take n digits ++ l) dot.spelled);
    whole_digits = begins.digits;
    fraction_digits = dot.digits;
    has_digit = some;
  };
  its_sign = refl;
  its_whole = refl;
  its_fraction = refl;
}
