-- Products rounded to whole cents, half to even.
use Rattle.std.proofs.Common.{Option, None, Some, SomeIff, IfSome, ◌≡◌, ◌≢◌, ℕ, ℤ, pos, negsuc, unsigned_abs, ◌+◌, ◌*◌, ◌%◌, ◌^◌, ◌≤◌, neg_ℤ, FitsSigned, w64, ◌+ℤ◌, ◌-ℤ◌, ◌*ℤ◌, ◌<ℤ◌, ◌≤ℤ◌, ◌⊎◌, inl, inr, Bool, true, false, refl, sym, ap, ◌∙◌, subst, arith}
use Rattle.std.proofs.lemmas.Int.{ints, by_lt_z, to_z-of_z, fits_signed_mul}
use Rattle.std.specs.Int.{w128}
use mir.Val.{to_z, of_z}
use Rattle.std.proofs.lemmas.Bool.{cases_lt}
use Rattle.std.proofs.lemmas.Bool.Decides.{nat_tests}
use Rattle.fixpoint.specs.Money.{distance, IsNearest, IsCentsOfProduct, half_even, cents_of_product, ProductsAreRounded}
use Rattle.fixpoint.specs.Number.{signed, is_negative}
use Rattle.fixpoint.proofs.Numbers.{unsigned_abs-signed}
use Rattle.fixpoint.proofs.ShortestText.{units_are_signed}

-- ---- the nearest whole number is at most a half away

nearest_within_half : (z c other : ℤ) → 2 * distance z c ≤ 1000000 → distance z c ≤ distance z other
nearest_within_half z c other half = omega (arith, ints)

tie_is_half : (z c other : ℤ) → 2 * distance z c ≤ 1000000 → other ≢ c → distance z other ≡ distance z c → 2 * distance z c ≡ 1000000
tie_is_half z c other half apart tie = omega (arith, ints)

half_of_nearest : (z c : ℤ) → IsNearest z c → 2 * distance z c ≤ 1000000
half_of_nearest z c h =
    let above = h.nearest (c +ℤ pos 1) in
    let below = h.nearest (c -ℤ pos 1) in
    omega (arith, ints, above, below)

nearest_from_half : (z c : ℤ) → 2 * distance z c ≤ 1000000 → (2 * distance z c ≡ 1000000 → unsigned_abs c % 2 ≡ 0) → IsNearest z c
nearest_from_half z c half even = record {
  nearest = λ other. nearest_within_half z c other half;
  even_of_two = λ other apart tie. even (tie_is_half z c other half apart tie);
}

-- ---- at most one whole number is the nearest, the even one of two

no_two_nearest : (z a b : ℤ) → IsNearest z a → IsNearest z b → a <ℤ b → ⊥
no_two_nearest z a b p q below =
    let first = p.nearest b in
    let second = q.nearest a in
    let same : distance z b ≡ distance z a = omega arith in
    let apart : a ≢ b = λ e. omega (arith, ints) in
    let even_a = p.even_of_two b (λ e. apart (sym e)) same in
    let even_b = q.even_of_two a apart (sym same) in
    let half = half_of_nearest z a p in
    omega (arith, ints)

same_nearest : (z a b : ℤ) → IsNearest z a → IsNearest z b → a ≡ b
same_nearest z a b p q =
    by_lt_z a b (λ below. absurd (no_two_nearest z a b p q below))
    (λ above. by_lt_z b a (λ below. absurd (no_two_nearest z b a q p below)) (λ also. omega (arith, ints)))

-- ---- `half_even` is the nearest

pub half_even_high : (n : ℕ) → 2 * (half_even n * 1000000) ≤ 2 * n + 1000000
half_even_high n = grind (arith, nat_tests)

half_even_low : (n : ℕ) → 2 * n ≤ 2 * (half_even n * 1000000) + 1000000
half_even_low n = grind (arith, nat_tests)

half_even_from_tie : (n : ℕ) → (2 * (half_even n * 1000000) ≡ 2 * n + 1000000) ⊎ (2 * n ≡ 2 * (half_even n * 1000000) + 1000000) → half_even n % 2 ≡ 0
half_even_from_tie n (inl e) = grind (arith, nat_tests)
half_even_from_tie n (inr e) = grind (arith, nat_tests)

signed_near : (negative : Bool) (n w : ℕ) → 2 * (w * 1000000) ≤ 2 * n + 1000000 → 2 * n ≤ 2 * (w * 1000000) + 1000000
    → 2 * distance (signed negative n) (signed negative w) ≤ 1000000
signed_near false n w high low = omega (arith, ints)
signed_near true n w high low = omega (arith, ints)

signed_tie : (negative : Bool) (n w : ℕ) → 2 * distance (signed negative n) (signed negative w) ≡ 1000000
    → (2 * (w * 1000000) ≡ 2 * n + 1000000) ⊎ (2 * n ≡ 2 * (w * 1000000) + 1000000)
signed_tie false n w tie = elim (cases_lt n (w * 1000000)) [ inl below ↦ inl (omega (arith, ints)) | inr above ↦ inr (omega (arith, ints)) ]
signed_tie true n w tie = elim (cases_lt n (w * 1000000)) [ inl below ↦ inl (omega (arith, ints)) | inr above ↦ inr (omega (arith, ints)) ]

nearest_signed : (negative : Bool) (n : ℕ) → IsNearest (signed negative n) (signed negative (half_even n))
nearest_signed negative n =
    nearest_from_half (signed negative n) (signed negative (half_even n)) (signed_near negative n (half_even n) (half_even_high n) (half_even_low n))
    (λ tie. ap (λ k. k % 2) (unsigned_abs-signed negative (half_even n)) ∙ half_even_from_tie n (signed_tie negative n (half_even n) tie))

signed_hundred : (negative : Bool) (n : ℕ) → signed negative (n * 100) ≡ signed negative n *ℤ pos 100
signed_hundred false n = omega (arith, ints)
signed_hundred true n = omega (arith, ints)

cents_are_rounded : (one other : ℤ) → IsCentsOfProduct one other (cents_of_product one other)
cents_are_rounded one other =
    let product = one *ℤ other in
    let cents = signed (is_negative product) (half_even (unsigned_abs product)) in
    record {
      cents = cents;
      rounded = subst (λ z. IsNearest z cents) (sym (units_are_signed product)) (nearest_signed (is_negative product) (unsigned_abs product));
      of_cents = signed_hundred (is_negative product) (half_even (unsigned_abs product));
    }

pub products_are_rounded : ProductsAreRounded
products_are_rounded = record {
  rounded = cents_are_rounded;
  only = λ one other units h.
      let r = cents_are_rounded one other in
      h.of_cents ∙ ap (λ c. c *ℤ pos 100) (same_nearest (one *ℤ other) h.cents r.cents h.rounded r.rounded) ∙ sym r.of_cents;
}

-- ---- what the code computes

not_negative : (p : ℤ) → pos 0 ≤ℤ p → is_negative p ≡ false
not_negative (pos n) h = refl
not_negative (negsuc n) h = absurd (omega (arith, ints))

negative : (p : ℤ) → p <ℤ pos 0 → is_negative p ≡ true
negative (pos n) h = absurd (omega (arith, ints))
negative (negsuc n) h = refl

pub cents_not_negative : (one other p : ℤ) (n h : ℕ) → p ≡ one *ℤ other → n ≡ unsigned_abs p → h ≡ half_even n → pos 0 ≤ℤ p → cents_of_product one other ≡ pos (h * 100)
cents_not_negative one other p n h is_product is_size is_half sign =
    let sizes : half_even (unsigned_abs (one *ℤ other)) ≡ h = ap (λ z. half_even (unsigned_abs z)) (sym is_product) ∙ ap half_even (sym is_size) ∙ sym is_half in
    ap (λ b. signed b (half_even (unsigned_abs (one *ℤ other)) * 100)) (not_negative (one *ℤ other) (subst (λ z. pos 0 ≤ℤ z) is_product sign))
    ∙ ap (λ k. pos (k * 100)) sizes

pub cents_negative : (one other p : ℤ) (n h : ℕ) → p ≡ one *ℤ other → n ≡ unsigned_abs p → h ≡ half_even n → p <ℤ pos 0 → cents_of_product one other ≡ neg_ℤ (pos (h * 100))
cents_negative one other p n h is_product is_size is_half sign =
    let sizes : half_even (unsigned_abs (one *ℤ other)) ≡ h = ap (λ z. half_even (unsigned_abs z)) (sym is_product) ∙ ap half_even (sym is_size) ∙ sym is_half in
    ap (λ b. signed b (half_even (unsigned_abs (one *ℤ other)) * 100)) (negative (one *ℤ other) (subst (λ z. z <ℤ pos 0) is_product sign))
    ∙ ap (λ k. neg_ℤ (pos (k * 100))) sizes

-- a product of two 64-bit counts fits 128 bits
pub product_fits : (one other : ℤ) → FitsSigned w64 one → FitsSigned w64 other → FitsSigned w128 (one *ℤ other)
product_fits one other p q = fits_signed_mul w128 one other (2 ^ 63) (2 ^ 63) (omega (arith, ints)) (omega (arith, ints)) (omega arith)

pub product_read : (one other a b : ℤ) → FitsSigned w64 one → FitsSigned w64 other → a ≡ to_z w64 (of_z w64 one) → b ≡ to_z w64 (of_z w64 other)
    → to_z w128 (of_z w128 (to_z w128 (of_z w128 a) *ℤ to_z w128 (of_z w128 b))) ≡ one *ℤ other
product_read one other a b p q first second =
    let left : to_z w128 (of_z w128 a) ≡ one = omega (arith, ints) in
    let right : to_z w128 (of_z w128 b) ≡ other = omega (arith, ints) in
    ap (λ x. to_z w128 (of_z w128 (x *ℤ to_z w128 (of_z w128 b)))) left
    ∙ ap (λ x. to_z w128 (of_z w128 (one *ℤ x))) right
    ∙ to_z-of_z w128 (one *ℤ other) (product_fits one other p q)

pub rounded_where_exact : (one other : ℤ) (r : Option ℤ) (P : Type 0) → SomeIff r P (cents_of_product one other) → IfSome r (IsCentsOfProduct one other)
rounded_where_exact one other None P h = tt
rounded_where_exact one other (Some units) P h = subst (IsCentsOfProduct one other) (sym h.1) (cents_are_rounded one other)
