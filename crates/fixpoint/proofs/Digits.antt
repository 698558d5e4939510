-- The value of digits, and trailing zeros.
use Rattle.std.proofs.Common.{eq-eqb, ◌≡◌, ◌≢◌, ◌⊎◌, inl, inr, ℕ, ◌+◌, ◌-◌, ◌*◌, ◌/◌, ◌^◌, ◌<◌, ◌≤◌, zero, suc, Bool, true, false, cond, ◌&&◌, eqb, List, [], ◌∷◌, ◌++◌, length, get_or, take, replicate, refl, sym, ap, ◌∙◌, subst, decimal, arith, rules, tests}
use Rattle.std.proofs.Math.Nat.{pow-suc, one-le-pow, mul-div_cancel}
use Rattle.std.proofs.lemmas.List.{take_more}
use Rattle.std.proofs.lemmas.Fmt.{length-decimal-le}
use Rattle.std.proofs.lemmas.Bool.{and_parts, and_from, eqb-true, false≢true}
use Rattle.std.proofs.lemmas.Bool.Decides.{nat_tests}
use Rattle.std.specs.Char.{digit_value}
use Rattle.std.specs.Str.Parse.{AllDigits, digits_value, digits_value_after}
use Rattle.fixpoint.specs.NumberText.{is_zeros, without_end_zeros}

-- a common factor that is not zero can be cancelled
pub same_factor : (a b n : ℕ) → 0 < n → a * n ≡ b * n → a ≡ b
same_factor a b n some e = sym (mul-div_cancel a some) ∙ ap (λ x. x / n) e ∙ mul-div_cancel b some

pub pow_ten_pos : (n : ℕ) → 0 < 10 ^ n
pow_ten_pos n = one-le-pow n 10 (omega arith)

one_more : (n d p v : ℕ) → (n * 10 + d) * p + v ≡ n * (p * 10) + ((0 * 10 + d) * p + v)
one_more n d p v = omega arith

-- the value of digits that follow digits of value n
pub digits_value_after_is : (n : ℕ) (ds : List ℕ) → digits_value_after 10 n ds ≡ n * 10 ^ length ds + digits_value 10 ds
digits_value_after_is n [] = omega arith
digits_value_after_is n (c ∷ cs) =
    digits_value_after_is (n * 10 + digit_value c) cs
    ∙ one_more n (digit_value c) (10 ^ length cs) (digits_value 10 cs)
    ∙ ap (λ x. n * x + ((0 * 10 + digit_value c) * 10 ^ length cs + digits_value 10 cs)) (sym (pow-suc 10 (length cs)))
    ∙ ap (λ x. n * 10 ^ suc (length cs) + x) (sym (digits_value_after_is (0 * 10 + digit_value c) cs))

after_append : (n : ℕ) (xs ys : List ℕ) → digits_value_after 10 n (xs ++ ys) ≡ digits_value_after 10 (digits_value_after 10 n xs) ys
after_append n [] ys = refl
after_append n (x ∷ xs) ys = after_append (n * 10 + digit_value x) xs ys

pub digits_value-append : (xs ys : List ℕ) → digits_value 10 (xs ++ ys) ≡ digits_value 10 xs * 10 ^ length ys + digits_value 10 ys
digits_value-append xs ys = after_append 0 xs ys ∙ digits_value_after_is (digits_value 10 xs) ys

-- ---- digits of a list's parts

pub AllDigits-append_left : (xs ys : List ℕ) → AllDigits 10 (xs ++ ys) → AllDigits 10 xs
AllDigits-append_left [] ys h = tt
AllDigits-append_left (x ∷ xs) ys h = (h.0, AllDigits-append_left xs ys h.1)

pub AllDigits-append : (xs ys : List ℕ) → AllDigits 10 xs → AllDigits 10 ys → AllDigits 10 (xs ++ ys)
AllDigits-append [] ys p q = q
AllDigits-append (x ∷ xs) ys p q = (p.0, AllDigits-append xs ys p.1 q)

-- ---- trailing zeros

pub digits_value-zeros : (n : ℕ) → digits_value 10 (replicate n 48) ≡ 0
digits_value-zeros zero = refl
digits_value-zeros (suc n) = digits_value-zeros n

and_false : (b : Bool) → b && false ≡ false
and_false true = refl
and_false false = refl

is_zeros-push : (xs : List ℕ) → is_zeros (xs ++ 48 ∷ []) ≡ is_zeros xs
is_zeros-push [] = refl
is_zeros-push (x ∷ xs) = ap (λ b. eqb x 48 && b) (is_zeros-push xs)

without_end_zeros-push : (xs : List ℕ) → without_end_zeros (xs ++ 48 ∷ []) ≡ without_end_zeros xs
without_end_zeros-push [] = refl
without_end_zeros-push (x ∷ xs) =
    ap (λ b. cond (eqb x 48 && b) [] (x ∷ without_end_zeros (xs ++ 48 ∷ []))) (is_zeros-push xs)
    ∙ ap (λ l. cond (is_zeros (x ∷ xs)) [] (x ∷ l)) (without_end_zeros-push xs)

is_zeros-bare : (xs : List ℕ) (d : ℕ) → d ≢ 48 → is_zeros (xs ++ d ∷ []) ≡ false
is_zeros-bare [] d bare = search (rules, tests)
is_zeros-bare (x ∷ xs) d bare = ap (λ b. eqb x 48 && b) (is_zeros-bare xs d bare) ∙ and_false (eqb x 48)

without_end_zeros-bare : (xs : List ℕ) (d : ℕ) → d ≢ 48 → without_end_zeros (xs ++ d ∷ []) ≡ xs ++ d ∷ []
without_end_zeros-bare [] d bare = ap (λ b. cond b [] (d ∷ [])) (is_zeros-bare [] d bare)
without_end_zeros-bare (x ∷ xs) d bare =
    ap (λ b. cond b [] (x ∷ without_end_zeros (xs ++ d ∷ []))) (is_zeros-bare (x ∷ xs) d bare)
    ∙ ap (λ l. x ∷ l) (without_end_zeros-bare xs d bare)

-- if the last of n digits is `0`, it is removed
pub without_end_zeros_less : (xs : List ℕ) (n : ℕ) → 0 < n → n ≤ length xs → get_or xs (n - 1) 0 ≡ 48
    → without_end_zeros (take (n - 1) xs) ≡ without_end_zeros (take n xs)
without_end_zeros_less xs n some within zero_last =
    let k : n - 1 + 1 ≡ n = omega arith in
    let parts : take (n - 1 + 1) xs ≡ take (n - 1) xs ++ get_or xs (n - 1) 0 ∷ [] = take_more xs (n - 1) 0 (omega arith) in
    sym (without_end_zeros-push (take (n - 1) xs))
    ∙ ap (λ d. without_end_zeros (take (n - 1) xs ++ d ∷ [])) (sym zero_last)
    ∙ ap without_end_zeros (sym parts)
    ∙ ap (λ m. without_end_zeros (take m xs)) k

-- if the last of n digits is not `0`, all n remain
pub without_end_zeros_stop : (xs : List ℕ) (n : ℕ) → 0 < n → n ≤ length xs → get_or xs (n - 1) 0 ≢ 48
    → without_end_zeros (take n xs) ≡ take n xs
without_end_zeros_stop xs n some within bare =
    let k : n - 1 + 1 ≡ n = omega arith in
    let parts : take (n - 1 + 1) xs ≡ take (n - 1) xs ++ get_or xs (n - 1) 0 ∷ [] = take_more xs (n - 1) 0 (omega arith) in
    let whole : take n xs ≡ take (n - 1) xs ++ get_or xs (n - 1) 0 ∷ [] = ap (λ m. take m xs) (sym k) ∙ parts in
    ap without_end_zeros whole ∙ without_end_zeros-bare (take (n - 1) xs) (get_or xs (n - 1) 0) bare ∙ sym whole

zeros_are : (xs : List ℕ) → is_zeros xs ≡ true → xs ≡ replicate (length xs) 48
zeros_are [] e = refl
zeros_are (x ∷ xs) e =
    let both = and_parts (eqb x 48) (is_zeros xs) e in
    ap (λ d. d ∷ xs) (eqb-true x 48 both.0) ∙ ap (λ l. 48 ∷ l) (zeros_are xs both.1)

zeros_after : (x : ℕ) (xs : List ℕ) (b : Bool) → is_zeros (x ∷ xs) ≡ b → (n : ℕ) × (xs ≡ without_end_zeros xs ++ replicate n 48)
    → (n : ℕ) × (x ∷ xs ≡ cond b [] (x ∷ without_end_zeros xs) ++ replicate n 48)
zeros_after x xs true e rest = (length (x ∷ xs), zeros_are (x ∷ xs) e)
zeros_after x xs false e rest = (rest.0, ap (λ l. x ∷ l) rest.1)

-- digits are the digits without trailing zeros, followed by zeros
pub zeros_at_end : (xs : List ℕ) → (n : ℕ) × (xs ≡ without_end_zeros xs ++ replicate n 48)
zeros_at_end [] = (0, refl)
zeros_at_end (x ∷ xs) = zeros_after x xs (is_zeros (x ∷ xs)) refl (zeros_at_end xs)

-- the last digit, if any, is not `0`
abbrev pub EndsBare : List ℕ → Type 0
EndsBare xs = (xs ≡ []) ⊎ ((ys : List ℕ) × (d : ℕ) × (d ≢ 48) × (xs ≡ ys ++ d ∷ []))

zeros_from_none : (xs : List ℕ) → without_end_zeros xs ≡ [] → is_zeros xs ≡ true
zeros_from_none [] e = refl
zeros_from_none (x ∷ xs) e = by_bool (is_zeros (x ∷ xs)) e where
  by_bool : (b : Bool) → cond b [] (x ∷ without_end_zeros xs) ≡ [] → b ≡ true
  by_bool true e = refl
  by_bool false e = absurd (cc)

bare_after : (x : ℕ) (xs : List ℕ) (b : Bool) → is_zeros (x ∷ xs) ≡ b → EndsBare (without_end_zeros xs) → EndsBare (cond b [] (x ∷ without_end_zeros xs))
bare_after x xs true e rest = inl refl
bare_after x xs false e (inl none) =
    inr ([], x, λ zero_digit. absurd (false≢true (sym e ∙ and_from (eqb x 48) (is_zeros xs) (eq-eqb x 48 zero_digit) (zeros_from_none xs none))), ap (λ l. x ∷ l) none)
bare_after x xs false e (inr last) = inr (x ∷ last.0, last.1, last.2, ap (λ l. x ∷ l) last.3)

pub without_end_zeros_ends_bare : (xs : List ℕ) → EndsBare (without_end_zeros xs)
without_end_zeros_ends_bare [] = inl refl
without_end_zeros_ends_bare (x ∷ xs) = bare_after x xs (is_zeros (x ∷ xs)) refl (without_end_zeros_ends_bare xs)

pub AllDigits-without_end_zeros : (xs : List ℕ) → AllDigits 10 xs → AllDigits 10 (without_end_zeros xs)
AllDigits-without_end_zeros xs h =
    let parts = zeros_at_end xs in
    AllDigits-append_left (without_end_zeros xs) (replicate parts.0 48) (subst (AllDigits 10) parts.1 h)

-- ---- one digit

pub value_of_digit : (c : ℕ) → 48 ≤ c → c ≤ 57 → digit_value c ≡ c - 48
value_of_digit c low high = grind (arith, nat_tests)

-- ---- the shortest text of a whole part

pub length-whole_part : (units : ℕ) → units ≤ 999999999999999 → length (decimal (units / 10000)) ≤ 11
length-whole_part units h = length-decimal-le 11 (units / 10000) (omega arith) (omega arith) (omega arith)
