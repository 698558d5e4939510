-- Bits of masks.
use Rattle.std.proofs.Common.{◌≡◌, ℕ, zero, suc, ◌*◌, ◌/◌, ◌%◌, ◌^◌, ◌<◌, Bool, true, false, List, [], ◌∷◌, length, get_or, inl, inr, refl, sym, ap, ◌∙◌, arith, w64, eq-eqb, get_or-set_other, get_or-set_same}
use Rattle.std.proofs.Math.ListN.{set}
use Rattle.std.proofs.lemmas.Bool.{cases_eq, ne_eqb, or_right}
use Rattle.std.proofs.lemmas.Nat.Bits.{shr_and_one, bit_at_and, bit_at_set_same, bit_at_set_other, bit_at-lt}
use Rattle.std.specs.Prelude.{bit_and, bit_or, min, ◌==◌, ◌&&◌, ◌||◌}
use Rattle.std.specs.Int.{bit_at}
use Rattle.cutplan.specs.Masks.{has_rule}

or_none : (b : Bool) → (b || false) ≡ b
or_none true = refl
or_none false = refl

-- two comparisons agree if each equality implies the other
same_test : (a b c d : ℕ) → (a ≡ b → c ≡ d) → (c ≡ d → a ≡ b) → (a == b) ≡ (c == d)
same_test a b c d there back = elim (cases_eq a b) [
  | inl e ↦ eq-eqb a b e ∙ sym (eq-eqb c d (there e))
  | inr ne ↦ ne_eqb a b ne ∙ sym (ne_eqb c d (λ f. ne (back f)))
]

-- a word with one more bit
word_set : (word k j : ℕ) → k < 64 → (bit_at (bit_or word (1 * 2 ^ k % 2 ^ 64)) j == 1) ≡ ((bit_at word j == 1) || (j == k))
word_set word k j within = elim (cases_eq j k) [
  | inl same ↦
      eq-eqb (bit_at (bit_or word (1 * 2 ^ k % 2 ^ 64)) j) 1 (ap (bit_at (bit_or word (1 * 2 ^ k % 2 ^ 64))) same ∙ bit_at_set_same w64 word k within)
      ∙ sym (or_right (bit_at word j == 1) (j == k) (eq-eqb j k same))
  | inr other ↦
      ap (λ x. x == 1) (bit_at_set_other w64 word k within j other)
      ∙ sym (ap (λ b. (bit_at word j == 1) || b) (ne_eqb j k other) ∙ or_none (bit_at word j == 1))
]

-- a mask with one more rule
pub inserted : (mask new : List ℕ) (place other : ℕ) → length mask ≡ 4 → place < 256
    → new ≡ set mask (place / 64) (bit_or (get_or mask (place / 64) 0) (1 * 2 ^ (place % 64) % 2 ^ 64))
    → other < 256 → has_rule new other ≡ (has_rule mask other || (other == place))
inserted mask new place other words within is small = elim (cases_eq (other / 64) (place / 64)) [
  | inl same ↦
      (let word = get_or mask (place / 64) 0 in
      let inside : place / 64 < length mask = omega arith in
      let here : get_or new (other / 64) 0 ≡ bit_or word (1 * 2 ^ (place % 64) % 2 ^ 64) =
      ap (λ i. get_or new i 0) same ∙ ap (λ w. get_or w (place / 64) 0) is ∙ get_or-set_same mask (place / 64) (bit_or word (1 * 2 ^ (place % 64) % 2 ^ 64)) 0 inside in
      ap (λ w. bit_at w (other % 64) == 1) here ∙ word_set word (place % 64) (other % 64) (omega arith)
      ∙ ap (λ w. (bit_at w (other % 64) == 1) || (other % 64 == place % 64)) (ap (λ i. get_or mask i 0) (sym same))
      ∙ ap (λ b. has_rule mask other || b) (same_test (other % 64) (place % 64) other place (λ e. omega arith) (λ e. omega arith)))
  | inr apart ↦
      (let here : get_or new (other / 64) 0 ≡ get_or mask (other / 64) 0 =
      ap (λ w. get_or w (other / 64) 0) is ∙ get_or-set_other mask (place / 64) (other / 64) (bit_or (get_or mask (place / 64) 0) (1 * 2 ^ (place % 64) % 2 ^ 64)) 0 apart in
      ap (λ w. bit_at w (other % 64) == 1) here
      ∙ sym (ap (λ b. has_rule mask other || b) (ne_eqb other place (λ e. apart (ap (λ n. n / 64) e))) ∙ or_none (has_rule mask other)))
]

-- the lesser of two bits
least_bit : (x y : ℕ) → x < 2 → y < 2 → (min x y == 1) ≡ ((x == 1) && (y == 1))
least_bit zero zero a b = refl
least_bit zero (suc zero) a b = refl
least_bit zero (suc (suc y)) a b = absurd (omega (arith, b))
least_bit (suc zero) zero a b = refl
least_bit (suc zero) (suc zero) a b = refl
least_bit (suc zero) (suc (suc y)) a b = absurd (omega (arith, b))
least_bit (suc (suc x)) y a b = absurd (omega (arith, a))

-- a list of four elements, given by a function
pub four : (f : ℕ → ℕ) (k : ℕ) → k < 4 → get_or (f 0 ∷ f 1 ∷ f 2 ∷ f 3 ∷ []) k 0 ≡ f k
four f zero small = refl
four f (suc zero) small = refl
four f (suc (suc zero)) small = refl
four f (suc (suc (suc zero))) small = refl
four f (suc (suc (suc (suc k)))) small = absurd (omega (arith, small))

-- the intersection of two masks
pub met : (a b new : List ℕ) (place : ℕ) → place < 256
    → new ≡ bit_and (get_or a 0 0) (get_or b 0 0) ∷ bit_and (get_or a 1 0) (get_or b 1 0) ∷ bit_and (get_or a 2 0) (get_or b 2 0) ∷ bit_and (get_or a 3 0) (get_or b 3 0) ∷ []
    → has_rule new place ≡ (has_rule a place && has_rule b place)
met a b new place within is =
    let word : ℕ → ℕ = λ i. bit_and (get_or a i 0) (get_or b i 0) in
    let here : get_or new (place / 64) 0 ≡ word (place / 64) = ap (λ w. get_or w (place / 64) 0) is ∙ four word (place / 64) (omega arith) in
    let x = get_or a (place / 64) 0 in
    let y = get_or b (place / 64) 0 in
    ap (λ w. bit_at w (place % 64) == 1) here ∙ ap (λ n. n == 1) (bit_at_and x y (place % 64))
    ∙ least_bit (bit_at x (place % 64)) (bit_at y (place % 64)) (bit_at-lt x (place % 64)) (bit_at-lt y (place % 64))

-- the test of a bit
pub tested : (mask : List ℕ) (place : ℕ) → (bit_and (get_or mask (place / 64) 0 / 2 ^ (place % 64)) 1 == 1) ≡ has_rule mask place
tested mask place = ap (λ n. n == 1) (shr_and_one (get_or mask (place / 64) 0) (place % 64))
