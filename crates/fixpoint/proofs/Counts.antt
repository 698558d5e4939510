-- The count of ten-thousandths that digits denote.
use Rattle.std.proofs.Common.{◌≡◌, ◌≢◌, inl, inr, ℕ, ◌+◌, ◌-◌, ◌*◌, ◌^◌, ◌<◌, ◌≤◌, min, List, [], ◌∷◌, ◌++◌, length, replicate, sym, ap, ◌∙◌, subst, append_assoc, length-append, arith}
use Rattle.std.proofs.Math.Nat.{mul_assoc, mul_comm, mul-lt-mul_of_pos_right, le-mul_of_pos_right}
use Rattle.std.proofs.lemmas.Nat.{pow-add}
use Rattle.std.proofs.lemmas.List.{length-replicate}
use Rattle.std.proofs.lemmas.Int.Digits.{digits_value_push, digits_value-lt}
use Rattle.std.proofs.lemmas.Str.Parse.{digit_from_value}
use Rattle.std.specs.Char.{digit_value}
use Rattle.std.specs.Str.Parse.{AllDigits, digits_value}
use Rattle.fixpoint.specs.NumberText.{IsCountOf, without_end_zeros}
use Rattle.fixpoint.proofs.Digits.{same_factor, pow_ten_pos, digits_value-append, digits_value-zeros, zeros_at_end, EndsBare, without_end_zeros_ends_bare, AllDigits-without_end_zeros, value_of_digit}

-- digits denote at most one count
pub same_count : (whole fraction : List ℕ) (a b : ℕ) → IsCountOf whole fraction a → IsCountOf whole fraction b → a ≡ b
same_count whole fraction a b p q = same_factor a b (10 ^ length fraction) (pow_ten_pos (length fraction)) (p ∙ sym q)

-- ---- trailing zeros do not change the count

value_with_zeros : (whole kept : List ℕ) (n : ℕ) → digits_value 10 (whole ++ (kept ++ replicate n 48)) ≡ digits_value 10 (whole ++ kept) * 10 ^ n
value_with_zeros whole kept n =
    ap (digits_value 10) (sym (append_assoc whole kept (replicate n 48)))
    ∙ digits_value-append (whole ++ kept) (replicate n 48)
    ∙ ap (λ x. digits_value 10 (whole ++ kept) * 10 ^ length {A = ℕ} (replicate n 48) + x) (digits_value-zeros n)
    ∙ ap (λ k. digits_value 10 (whole ++ kept) * 10 ^ k + 0) (length-replicate n 48)
    ∙ omega arith

power_with_zeros : (kept : List ℕ) (n : ℕ) → 10 ^ length (kept ++ replicate n 48) ≡ 10 ^ length kept * 10 ^ n
power_with_zeros kept n =
    ap (λ k. 10 ^ k) (length-append kept (replicate n 48) ∙ ap (λ k. length kept + k) (length-replicate n 48)) ∙ pow-add 10 (length kept) n

turned : (a b c : ℕ) → a * b * c ≡ a * c * b
turned a b c = omega arith

zeros_more : (whole kept : List ℕ) (n count : ℕ) → IsCountOf whole kept count → IsCountOf whole (kept ++ replicate n 48) count
zeros_more whole kept n count h =
    ap (λ x. count * x) (power_with_zeros kept n)
    ∙ sym (mul_assoc count (10 ^ length kept) (10 ^ n))
    ∙ ap (λ x. x * 10 ^ n) h
    ∙ turned (digits_value 10 (whole ++ kept)) 10000 (10 ^ n)
    ∙ ap (λ x. x * 10000) (sym (value_with_zeros whole kept n))

zeros_less : (whole kept : List ℕ) (n count : ℕ) → IsCountOf whole (kept ++ replicate n 48) count → IsCountOf whole kept count
zeros_less whole kept n count h =
    same_factor (count * 10 ^ length kept) (digits_value 10 (whole ++ kept) * 10000) (10 ^ n) (pow_ten_pos n)
    (mul_assoc count (10 ^ length kept) (10 ^ n)
    ∙ ap (λ x. count * x) (sym (power_with_zeros kept n))
    ∙ h
    ∙ ap (λ x. x * 10000) (value_with_zeros whole kept n)
    ∙ turned (digits_value 10 (whole ++ kept)) (10 ^ n) 10000)

pub count_from_kept : (whole fraction : List ℕ) (count : ℕ) → IsCountOf whole (without_end_zeros fraction) count → IsCountOf whole fraction count
count_from_kept whole fraction count h =
    let zeros = zeros_at_end fraction in
    subst (λ l. IsCountOf whole l count) (sym zeros.1) (zeros_more whole (without_end_zeros fraction) zeros.0 count h)

pub count_to_kept : (whole fraction : List ℕ) (count : ℕ) → IsCountOf whole fraction count → IsCountOf whole (without_end_zeros fraction) count
count_to_kept whole fraction count h =
    let zeros = zeros_at_end fraction in
    zeros_less whole (without_end_zeros fraction) zeros.0 count (subst (λ l. IsCountOf whole l count) zeros.1 h)

-- ---- at most four decimals

joined_count : (w f p q : ℕ) → q * p ≡ 10000 → (w * 10000 + f * q) * p ≡ (w * p + f) * 10000
joined_count w f p q e =
    let product : f * (q * p) ≡ f * 10000 = ap (λ x. f * x) e in
    omega (arith, product)

powers_of_four : (k : ℕ) → k ≤ 4 → 10 ^ (4 - k) * 10 ^ k ≡ 10000
powers_of_four k h = sym (pow-add 10 (4 - k) k) ∙ ap (λ n. 10 ^ n) (let e : 4 - k + k ≡ 4 = omega arith in e)

-- the count of a whole part and at most four decimals
pub count_of_kept : (whole kept : List ℕ) → length kept ≤ 4 → IsCountOf whole kept (digits_value 10 whole * 10000 + digits_value 10 kept * 10 ^ (4 - length kept))
count_of_kept whole kept h =
    joined_count (digits_value 10 whole) (digits_value 10 kept) (10 ^ length kept) (10 ^ (4 - length kept)) (powers_of_four (length kept) h)
    ∙ ap (λ x. x * 10000) (sym (digits_value-append whole kept))

-- four decimals are less than one
pub decimals_below_one : (kept : List ℕ) → AllDigits 10 kept → length kept ≤ 4 → digits_value 10 kept * 10 ^ (4 - length kept) < 10000
decimals_below_one kept digits h =
    subst (λ x. digits_value 10 kept * 10 ^ (4 - length kept) < x) (mul_comm (10 ^ length kept) (10 ^ (4 - length kept)) ∙ powers_of_four (length kept) h)
    (mul-lt-mul_of_pos_right (digits_value-lt 10 kept digits) (pow_ten_pos (4 - length kept)))

-- ---- more than four decimals

not_even : (m q d : ℕ) → m * 10 ≡ q * 10 + d → 0 < d → d < 10 → ⊥
not_even m q d e low high = omega arith

AllDigits-last : (ys : List ℕ) (d : ℕ) → AllDigits 10 (ys ++ d ∷ []) → digit_value d < 10
AllDigits-last [] d h = h.0
AllDigits-last (y ∷ ys) d h = AllDigits-last ys d h.1

last_digit : (d : ℕ) → d ≢ 48 → digit_value d < 10 → 0 < digit_value d
last_digit d bare below =
    let range = digit_from_value d below in
    let value = value_of_digit d range.0 range.1 in
    omega (arith, bare, range, value)

powers_of_more : (k : ℕ) → 4 < k → 10 ^ k ≡ 10 ^ (k - 5) * 10 * 10000
powers_of_more k h =
    ap (λ n. 10 ^ n) (let e : k ≡ k - 5 + 5 = omega arith in e) ∙ pow-add 10 (k - 5) 5 ∙ sym (mul_assoc (10 ^ (k - 5)) 10 10000)

no_count_at : (whole ys : List ℕ) (d k : ℕ) → 4 < k → 0 < digit_value d → digit_value d < 10 → (count : ℕ) → count * 10 ^ k ≡ digits_value 10 (whole ++ (ys ++ d ∷ [])) * 10000 → ⊥
no_count_at whole ys d k long low high count h =
    let q = digits_value 10 (whole ++ ys) in
    let value : digits_value 10 (whole ++ (ys ++ d ∷ [])) ≡ q * 10 + digit_value d =
    ap (digits_value 10) (sym (append_assoc whole ys (d ∷ []))) ∙ digits_value_push 10 (whole ++ ys) d in
    let left : count * 10 ^ k ≡ count * 10 ^ (k - 5) * 10 * 10000 =
    ap (λ x. count * x) (powers_of_more k long) ∙ sym (mul_assoc count (10 ^ (k - 5) * 10) 10000) ∙ ap (λ x. x * 10000) (sym (mul_assoc count (10 ^ (k - 5)) 10)) in
    not_even (count * 10 ^ (k - 5)) q (digit_value d)
    (same_factor (count * 10 ^ (k - 5) * 10) (q * 10 + digit_value d) 10000 (omega arith) (sym left ∙ h ∙ ap (λ x. x * 10000) value)) low high

no_count_after : (whole kept : List ℕ) → AllDigits 10 kept → 4 < length kept → EndsBare kept → (count : ℕ) → ¬ IsCountOf whole kept count
no_count_after whole kept digits long (inl none) count h = omega (arith, long, ap length none)
no_count_after whole kept digits long (inr (ys, d, bare, last)) count h =
    let below = AllDigits-last ys d (subst (AllDigits 10) last digits) in
    no_count_at whole ys d (length kept) long (last_digit d bare below) below count (h ∙ ap (λ l. digits_value 10 (whole ++ l) * 10000) last)

-- more than four decimals, the last of them not `0`, denote no count
pub no_count : (whole fraction : List ℕ) → AllDigits 10 fraction → 4 < length (without_end_zeros fraction) → (count : ℕ) → ¬ IsCountOf whole fraction count
no_count whole fraction digits long count h =
    no_count_after whole (without_end_zeros fraction) (AllDigits-without_end_zeros fraction digits) long (without_end_zeros_ends_bare fraction) count
    (count_to_kept whole fraction count h)

-- ---- the count from a capped whole part

-- the code's value of at most four decimals
pub rest_is : (fraction kept : List ℕ) (value power : ℕ) → AllDigits 10 fraction → kept ≡ without_end_zeros fraction → length kept ≤ 4
    → value ≡ min (digits_value 10 kept) 100000000000 → power ≡ 10 ^ (4 - length kept)
    → (value * power ≡ digits_value 10 kept * 10 ^ (4 - length kept)) × (value * power < 10000)
rest_is fraction kept value power digits is_kept few capped raised =
    let kept_digits = subst (AllDigits 10) (sym is_kept) (AllDigits-without_end_zeros fraction digits) in
    let below = decimals_below_one kept kept_digits few in
    let some = pow_ten_pos (4 - length kept) in
    let small : digits_value 10 kept ≤ digits_value 10 kept * 10 ^ (4 - length kept) = le-mul_of_pos_right (digits_value 10 kept) some in
    let exact : value ≡ digits_value 10 kept = omega arith in
    let same : value * power ≡ digits_value 10 kept * 10 ^ (4 - length kept) = ap (λ x. x * power) exact ∙ ap (λ x. digits_value 10 kept * x) raised in
    (same, omega arith)

-- the count of the digits if at most four decimals are left without trailing zeros
pub whole_count : (whole fraction kept : List ℕ) → kept ≡ without_end_zeros fraction → length kept ≤ 4
    → IsCountOf whole fraction (digits_value 10 whole * 10000 + digits_value 10 kept * 10 ^ (4 - length kept))
whole_count whole fraction kept is_kept few =
    let count = digits_value 10 whole * 10000 + digits_value 10 kept * 10 ^ (4 - length kept) in
    count_from_kept whole fraction count (subst (λ l. IsCountOf whole l count) is_kept (count_of_kept whole kept few))
