-- The mask of the first rules: words whose lowest bits are set.
use Rattle.std.proofs.Common.{◌≡◌, ℕ, zero, suc, ◌-◌, ◌*◌, ◌/◌, ◌%◌, ◌^◌, ◌<◌, ◌≤◌, [], ◌∷◌, false, get_or, inl, inr, refl, ap, sym, subst, ◌∙◌, arith, ◌⊎◌}
use Rattle.std.proofs.lemmas.Bool.{lt-ltb, le-ltb}
use Rattle.std.proofs.lemmas.Nat.Bits.{bit_at-zero, bit_at_ones, bit_at_ones_above, ones_shr}
use Rattle.std.specs.Prelude.{nat_lt, ◌==◌}
use Rattle.std.specs.Int.{bit_at}
use Rattle.cutplan.specs.Masks.{Marks}

order : (a b : ℕ) → (a < b) ⊎ (b ≤ a)
order a zero = inr (omega arith)
order zero (suc b) = inl (omega arith)
order (suc a) (suc b) = elim (order a b) [
  | inl less ↦ inl (omega (arith, less))
  | inr more ↦ inr (omega (arith, more))
]

-- all bits of a word are set
pub all_set : (count bit : ℕ) → 64 ≤ count → bit < 64 → (bit_at (2 ^ 64 - 1) bit == 1) ≡ nat_lt bit count
all_set count bit many within = ap (λ x. x == 1) (bit_at_ones 64 bit within) ∙ sym (lt-ltb bit count (omega (arith, many, within)))

-- only the lowest bits of a word are set
pub low_set : (count bit : ℕ) → count < 64 → (bit_at ((2 ^ 64 - 1) / 2 ^ (64 - count)) bit == 1) ≡ nat_lt bit count
low_set count bit small =
    let left : 64 - (64 - count) ≡ count = omega (arith, small) in
    ap (λ w. bit_at w bit == 1) (ones_shr 64 (64 - count) (omega arith) ∙ ap (λ n. 2 ^ n - 1) left) ∙ by_order (order bit count) where
      by_order : (bit < count) ⊎ (count ≤ bit) → (bit_at (2 ^ count - 1) bit == 1) ≡ nat_lt bit count
      by_order (inl less) = ap (λ x. x == 1) (bit_at_ones count bit less) ∙ sym (lt-ltb bit count less)
      by_order (inr more) = ap (λ x. x == 1) (bit_at_ones_above count bit more) ∙ sym (le-ltb bit count more)

-- no bit is set
pub no_bits : (count bit : ℕ) → count ≡ 0 → (bit_at 0 bit == 1) ≡ nat_lt bit count
no_bits count bit none = ap (λ x. x == 1) (bit_at-zero bit) ∙ sym (le-ltb bit count (omega (arith, none)))

-- the lowest `count` bits of a word are set
abbrev pub IsLow : ℕ → ℕ → Type 0
IsLow count word = (bit : ℕ) → bit < 64 → (bit_at word bit == 1) ≡ nat_lt bit count

pub less_alike : (a b c d : ℕ) → (a < b → c < d) → (b ≤ a → d ≤ c) → nat_lt a b ≡ nat_lt c d
less_alike a b c d there back = by_order (order a b) where
  by_order : (a < b) ⊎ (b ≤ a) → nat_lt a b ≡ nat_lt c d
  by_order (inl less) = lt-ltb a b less ∙ sym (lt-ltb c d (there less))
  by_order (inr more) = le-ltb a b more ∙ sym (le-ltb c d (back more))

-- the word that has the bit of a rule
word_at : (count w0 w1 w2 w3 k n : ℕ) → n ≡ count - 64 * k → IsLow count w0 → IsLow (count - 64) w1 → IsLow (count - 128) w2 → IsLow (count - 192) w3 → k < 4 → IsLow n (get_or (w0 ∷ w1 ∷ w2 ∷ w3 ∷ []) k 0)
word_at count w0 w1 w2 w3 zero n is a b c d small = let here : count ≡ n = omega (arith, is) in subst (λ m. IsLow m w0) here a
word_at count w0 w1 w2 w3 (suc zero) n is a b c d small = let here : count - 64 ≡ n = omega (arith, is) in subst (λ m. IsLow m w1) here b
word_at count w0 w1 w2 w3 (suc (suc zero)) n is a b c d small = let here : count - 128 ≡ n = omega (arith, is) in subst (λ m. IsLow m w2) here c
word_at count w0 w1 w2 w3 (suc (suc (suc zero))) n is a b c d small = let here : count - 192 ≡ n = omega (arith, is) in subst (λ m. IsLow m w3) here d
word_at count w0 w1 w2 w3 (suc (suc (suc (suc k)))) n is a b c d small = absurd (omega (arith, small))

-- the mask of the first `count` rules
pub first_marked : (count w0 w1 w2 w3 : ℕ) → IsLow count w0 → IsLow (count - 64) w1 → IsLow (count - 128) w2 → IsLow (count - 192) w3 → Marks (λ place. nat_lt place count) (w0 ∷ w1 ∷ w2 ∷ w3 ∷ [])
first_marked count w0 w1 w2 w3 a b c d = record {
  words = refl;
  has = λ place within.
      word_at count w0 w1 w2 w3 (place / 64) (count - 64 * (place / 64)) refl a b c d (omega (arith, within)) (place % 64) (omega arith)
      ∙ less_alike (place % 64) (count - 64 * (place / 64)) place count (λ less. omega (arith, less)) (λ more. omega (arith, more));
}

-- no bit of a word is set
none_low : (count : ℕ) → count ≡ 0 → IsLow count 0
none_low count none bit within = no_bits count bit none

-- the mask without rules
pub none_marked : Marks (λ place. false) (0 ∷ 0 ∷ 0 ∷ 0 ∷ [])
none_marked =
    let first = first_marked 0 0 0 0 0 (none_low 0 refl) (none_low (0 - 64) (omega arith)) (none_low (0 - 128) (omega arith)) (none_low (0 - 192) (omega arith)) in
    record { words = refl; has = λ place within. first.has place within ∙ le-ltb place 0 (omega arith) }

-- the mask of at most 64 rules
pub first_word : (count w : ℕ) → count ≤ 64 → IsLow count w → Marks (λ place. nat_lt place count) (w ∷ 0 ∷ 0 ∷ 0 ∷ [])
first_word count w few low =
    first_marked count w 0 0 0 low (λ bit within. no_bits (count - 64) bit (omega (arith, few))) (λ bit within. no_bits (count - 128) bit (omega (arith, few)))
    (λ bit within. no_bits (count - 192) bit (omega (arith, few)))
