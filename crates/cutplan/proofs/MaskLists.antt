-- The rules of a mask, listed word by word from the lowest set bit upwards.
use Rattle.std.proofs.Common.{◌≡◌, ℕ, zero, suc, ◌+◌, ◌-◌, ◌*◌, ◌/◌, ◌%◌, ◌^◌, ◌<◌, ◌≤◌, Bool, true, false, cond, List, [], ◌∷◌, ◌++◌, get_or, filter, inl, inr, refl, ap, sym, ◌∙◌, append_assoc, arith, w64}
use Rattle.std.proofs.lemmas.Bool.{cases_eq}
use Rattle.std.proofs.lemmas.List.Elements.{filter-append}
use Rattle.std.proofs.lemmas.Nat.{and_le_l}
use Rattle.std.proofs.lemmas.Nat.Bits.{bit_at-zero, bit_at-trailing_zeros, bit_at_clear_same, bit_at_clear_other}
use Rattle.std.specs.Prelude.{bit_and, ◌==◌}
use Rattle.std.specs.Int.{bit_at, bit_not, trailing_zeros}
use Rattle.std.specs.List.{range_with_len}
use Rattle.cutplan.specs.Masks.{has_rule, rules_in, HasOnlyFirst}
use Rattle.cutplan.specs.Matching.{places_set}
use Rattle.cutplan.proofs.MaskRules.{filter_within}

-- two tests that agree on a range filter it alike
pub filter_alike : (f g : ℕ → Bool) (a n : ℕ) → ((k : ℕ) → a ≤ k → k < a + n → f k ≡ g k) → filter f (range_with_len a n) ≡ filter g (range_with_len a n)
filter_alike f g a n same = filter_within f g a n n (omega arith) same (λ k low high. absurd (omega (arith, low, high)))

-- a filtered range begins with the first number that passes
first_kept : (f g : ℕ → Bool) (a n b : ℕ) → a ≤ b → b < a + n → ((k : ℕ) → a ≤ k → k < b → f k ≡ false) → f b ≡ true → g b ≡ false → ((k : ℕ) → a ≤ k → k < a + n → (k ≡ b → ⊥) → g k ≡ f k)
    → filter f (range_with_len a n) ≡ b ∷ filter g (range_with_len a n)
first_kept f g a zero b low high none here gone same = absurd (omega (arith, low, high))
first_kept f g a (suc n) b low high none here gone same = elim (cases_eq a b) [
  | inl e ↦
      (let is : f a ≡ true = ap f e ∙ here in
      let is_gone : g a ≡ false = ap g e ∙ gone in
      ap (λ x. cond x (a ∷ filter f (range_with_len (a + 1) n)) (filter f (range_with_len (a + 1) n))) is
      ∙ ap (λ x. x ∷ filter f (range_with_len (a + 1) n)) e
      ∙ ap (λ xs. b ∷ xs) (filter_alike f g (a + 1) n (λ k above below. sym (same k (omega (arith, above)) (omega (arith, below)) (λ z. absurd (omega (arith, above, z, e))))))
      ∙ ap (λ x. b ∷ cond x (a ∷ filter g (range_with_len (a + 1) n)) (filter g (range_with_len (a + 1) n))) (sym is_gone))
  | inr ne ↦
      (let less : a < b = omega (arith, low, ne) in
      let before : f a ≡ false = none a (omega arith) less in
      let before_too : g a ≡ false = same a (omega arith) (omega arith) ne ∙ before in
      ap (λ x. cond x (a ∷ filter f (range_with_len (a + 1) n)) (filter f (range_with_len (a + 1) n))) before
      ∙ first_kept f g (a + 1) n b (omega (arith, less)) (omega (arith, high)) (λ k above below. none k (omega (arith, above)) below) here gone (λ k above below. same k (omega (arith, above)) (omega (arith, below)))
      ∙ ap (λ x. b ∷ cond x (a ∷ filter g (range_with_len (a + 1) n)) (filter g (range_with_len (a + 1) n))) (sym before_too))
]

-- a bit that is 0 is not 1
no_one : (n : ℕ) → n ≡ 0 → (n == 1) ≡ false
no_one n e = ap (λ x. x == 1) e

-- a word without bits has no indices
pub none_set : (word first width : ℕ) → word ≡ 0 → places_set word first width ≡ []
none_set word first width e =
    filter_within (λ place. bit_at word (place - first) == 1) (λ place. true) first 0 width (omega arith) (λ k low high. absurd (omega (arith, low, high)))
    (λ k low high. no_one (bit_at word (k - first)) (ap (λ w. bit_at w (k - first)) e ∙ bit_at-zero (k - first)))

-- the index of the lowest set bit, followed by those of the others
pub lowest_set : (word first width : ℕ) → width ≡ 64 → (word ≡ 0 → ⊥) → word < 2 ^ 64
    → places_set word first width ≡ (first + trailing_zeros w64 word) ∷ places_set (bit_and word (bit_not w64 (1 * 2 ^ trailing_zeros w64 word % 2 ^ 64))) first width
lowest_set word first width wide some small =
    let bit = trailing_zeros w64 word in
    let left = bit_and word (bit_not w64 (1 * 2 ^ bit % 2 ^ 64)) in
    let lowest = bit_at-trailing_zeros w64 word (omega (arith, some)) small in
    let within : bit < 64 = lowest.0 in
    let there : (first + bit) - first ≡ bit = omega arith in
    first_kept (λ place. bit_at word (place - first) == 1) (λ place. bit_at left (place - first) == 1) first width (first + bit) (omega arith) (omega (arith, wide, within))
    (λ k low high. no_one (bit_at word (k - first)) (lowest.2 (k - first) (omega (arith, low, high))))
    (ap (λ i. bit_at word i == 1) there ∙ ap (λ x. x == 1) lowest.1)
    (ap (λ i. bit_at left i == 1) there ∙ no_one (bit_at left bit) (bit_at_clear_same w64 word bit within))
    (λ k low high other. ap (λ x. x == 1) (bit_at_clear_other w64 word bit within (k - first) (omega (arith, low, high, wide)) (λ e. other (omega (arith, low, e)))))

-- a word without its lowest set bit is smaller
pub smaller : (word : ℕ) → (word ≡ 0 → ⊥) → word < 2 ^ 64 → bit_and word (bit_not w64 (1 * 2 ^ trailing_zeros w64 word % 2 ^ 64)) < word
smaller word some small =
    let bit = trailing_zeros w64 word in
    let left = bit_and word (bit_not w64 (1 * 2 ^ bit % 2 ^ 64)) in
    let lowest = bit_at-trailing_zeros w64 word (omega (arith, some)) small in
    let gone : bit_at left bit ≡ 0 = bit_at_clear_same w64 word bit lowest.0 in
    elim (cases_eq left word) [
      | inl same ↦ absurd (let kept : bit_at left bit ≡ bit_at word bit = ap (λ x. bit_at x bit) same in omega (arith, kept, gone, lowest.1))
      | inr other ↦ omega (arith, other, and_le_l word (bit_not w64 (1 * 2 ^ bit % 2 ^ 64)))
    ]

-- moving the index of the lowest set bit from the word to the list keeps the whole list the same
pub joined_places : (found new before : List ℕ) (word left first width : ℕ) → width ≡ 64 → (left ≡ 0 → ⊥) → left < 2 ^ 64 → new ≡ found ++ (first + trailing_zeros w64 left) ∷ []
    → found ++ places_set left first width ≡ before ++ places_set word first width
    → new ++ places_set (bit_and left (bit_not w64 (1 * 2 ^ trailing_zeros w64 left % 2 ^ 64))) first width ≡ before ++ places_set word first width
joined_places found new before word left first width wide some small pushed is =
    let bit = first + trailing_zeros w64 left in
    let others = places_set (bit_and left (bit_not w64 (1 * 2 ^ trailing_zeros w64 left % 2 ^ 64))) first width in
    ap (λ xs. xs ++ others) pushed ∙ append_assoc found (bit ∷ []) others ∙ ap (λ xs. found ++ xs) (sym (lowest_set left first width wide some small)) ∙ is

-- a range splits into its first numbers and the others
range_parts : (a m n : ℕ) → range_with_len a (m + n) ≡ range_with_len a m ++ range_with_len (a + m) n
range_parts a zero n =
    let here : a ≡ a + 0 = omega arith in
    let none : zero + n ≡ n = omega arith in
    ap (range_with_len a) none ∙ ap (λ k. range_with_len k n) here
range_parts a (suc m) n =
    let there : (a + 1) + m ≡ a + suc m = omega arith in
    let more : suc m + n ≡ suc (m + n) = omega arith in
    ap (range_with_len a) more ∙ ap (λ xs. a ∷ xs) (range_parts (a + 1) m n ∙ ap (λ k. range_with_len (a + 1) m ++ range_with_len k n) there)

-- the rules of one word of a mask
word_rules : (mask : List ℕ) (word width : ℕ) → width ≡ 64 → filter (has_rule mask) (range_with_len (64 * word) width) ≡ places_set (get_or mask word 0) (64 * word) width
word_rules mask word width wide =
    filter_alike (has_rule mask) (λ place. bit_at (get_or mask word 0) (place - 64 * word) == 1) (64 * word) width
    (λ k low high.
    let at : k / 64 ≡ word = omega (arith, low, high, wide) in
    let bit : k % 64 ≡ k - 64 * word = omega (arith, low, high, wide) in
    ap (λ i. bit_at (get_or mask i 0) (k % 64) == 1) at ∙ ap (λ i. bit_at (get_or mask word 0) i == 1) bit)

-- the rules of the first words
abbrev pub AreFirstRules : List ℕ → ℕ → List ℕ → Type 0
AreFirstRules mask words found = (count : ℕ) → count ≡ 64 * words → found ≡ filter (has_rule mask) (range_with_len 0 count)

-- the rules of one more word
pub more_rules : (mask found new : List ℕ) (words : ℕ) → AreFirstRules mask words found → ((width : ℕ) → width ≡ 64 → new ≡ found ++ places_set (get_or mask words 0) (64 * words) width) → AreFirstRules mask (words + 1) new
more_rules mask found new words all next count is =
    let before : ℕ = 64 * words in
    let width : ℕ = count - before in
    let wide : width ≡ 64 = omega (arith, is) in
    let parts : before + width ≡ count = omega (arith, is) in
    let zero_more : 0 + before ≡ before = omega arith in
    next width wide ∙ ap (λ xs. xs ++ places_set (get_or mask words 0) before width) (all before refl)
    ∙ ap (λ ys. filter (has_rule mask) (range_with_len 0 before) ++ ys) (sym (word_rules mask words width wide))
    ∙ sym (filter-append (has_rule mask) (range_with_len 0 before) (range_with_len before width))
    ∙ ap (λ k. filter (has_rule mask) (range_with_len 0 before ++ range_with_len k width)) (sym zero_more)
    ∙ ap (filter (has_rule mask)) (sym (range_parts 0 before width)) ∙ ap (λ n. filter (has_rule mask) (range_with_len 0 n)) parts

-- the rules of all four words
pub all_rules : (mask found : List ℕ) (words count : ℕ) → words ≡ 4 → count ≤ 256 → HasOnlyFirst count mask → AreFirstRules mask words found → found ≡ rules_in count mask
all_rules mask found words count four few none all =
    let total : ℕ = 64 * words in
    let more : count ≤ total = omega (arith, four, few) in
    all total refl ∙ filter_within (has_rule mask) (has_rule mask) 0 count total more (λ k low high. refl) (λ k low high. none k (omega (arith, low)) (omega (arith, high, four)))
