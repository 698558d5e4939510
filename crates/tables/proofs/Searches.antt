-- What a loop knows that searches a list for the first element that passes a test.
use Rattle.std.proofs.Common.{◌≡◌, ℕ, suc, ◌+◌, ◌<◌, ◌≤◌, Bool, true, false, inl, inr, nat_lt, cond, Some, None, is_some, List, [], ◌∷◌, length, get_or, take, refl, sym, ap, ◌∙◌, arith}
use Rattle.std.specs.List.{list_any, list_all, position, position_or_len}
use Rattle.std.proofs.lemmas.Bool.{cases_Bool, cases_lt}
use Rattle.std.proofs.lemmas.Bool.Decides.{nat_tests}
use Rattle.std.proofs.lemmas.List.{get_or_default, take_all}
use Rattle.std.proofs.lemmas.List.Folds.{list_any_at, list_any_more, list_all_at, list_all_more}
use Rattle.std.proofs.lemmas.List.Sums.{position_or_len_is}

module _ {X : Type 0} (p : X → Bool) (xs : List X) (i : ℕ) where
  -- no element before the index passes
  pub any_more : (x : X) → i < length xs → x ≡ get_or xs i x → list_any p (take i xs) ≡ false → p x ≡ false → list_any p (take (i + 1) xs) ≡ false
  any_more x within here before fails = list_any_more p xs i x within ∙ rw (before, sym here) fails

  pub any_found : (x : X) → i < length xs → x ≡ get_or xs i x → p x ≡ true → true ≡ list_any p xs
  any_found x within here passes = sym (list_any_at p xs i x within (rw (sym here) passes))

  pub any_missing : length xs ≤ i → list_any p (take i xs) ≡ false → false ≡ list_any p xs
  any_missing past before = sym before ∙ ap (list_any p) (take_all i xs past)

  -- each element before the index passes
  pub all_more : (x : X) → i < length xs → x ≡ get_or xs i x → list_all p (take i xs) ≡ true → p x ≡ true → list_all p (take (i + 1) xs) ≡ true
  all_more x within here before passes = list_all_more p xs i x within ∙ rw (before, sym here) passes

  pub all_failed : (x : X) → i < length xs → x ≡ get_or xs i x → p x ≡ false → false ≡ list_all p xs
  all_failed x within here fails = sym (list_all_at p xs i x within (rw (sym here) fails))

  pub all_passed : length xs ≤ i → list_all p (take i xs) ≡ true → true ≡ list_all p xs
  all_passed past before = sym before ∙ ap (list_all p) (take_all i xs past)

is_some_next : (n size : ℕ) → is_some (cond (nat_lt n size) (Some n) None) ≡ is_some (cond (nat_lt (1 + n) (suc size)) (Some (1 + n)) None)
is_some_next n size = grind (arith, nat_tests)

some_first : (size : ℕ) → is_some {T = ℕ} (cond (nat_lt 0 (suc size)) (Some 0) None) ≡ true
some_first size = grind (arith, nat_tests)

-- no element before the index passes, by index
abbrev pub FailsBefore : {X : Type 0} → (X → Bool) → List X → ℕ → Type 0
FailsBefore {X} p xs i = (k : ℕ) (d : X) → k < i → p (get_or xs k d) ≡ false

module _ {X : Type 0} (p : X → Bool) where
  pub position_more : (xs : List X) (i : ℕ) (x : X) → i < length xs → x ≡ get_or xs i x → FailsBefore p xs i → p x ≡ false → FailsBefore p xs (i + 1)
  position_more xs i x within here before fails k d below =
      elim (cases_lt k i) [
        | inl lower ↦ before k d lower
        | inr upper ↦
            let last : k ≡ i = omega arith in
            rw (last, get_or_default xs i d x within, sym here) fails
      ]

  pub position_found : (xs : List X) (i : ℕ) (x : X) → i < length xs → x ≡ get_or xs i x → FailsBefore p xs i → p x ≡ true → Some i ≡ position p xs
  position_found xs i x within here before passes =
      let first : position_or_len p xs ≡ i = position_or_len_is p xs i x (omega arith) (λ k below. before k x below) (λ _. rw (sym here) passes) in
      rw first (grind (arith, nat_tests))

  pub position_missing : (xs : List X) (i : ℕ) → length xs ≤ i → FailsBefore p xs i → None ≡ position p xs
  position_missing [] i past before = refl
  position_missing (x ∷ xs) i past before =
      let first : position_or_len p (x ∷ xs) ≡ length (x ∷ xs) = position_or_len_is p (x ∷ xs) (length (x ∷ xs)) x (omega arith) (λ k below. before k x (omega arith)) (λ within. absurd (omega arith)) in
      rw first (grind (arith, nat_tests))

  -- there is a first element that passes exactly if one passes
  pub is_some-position : (xs : List X) → is_some (position p xs) ≡ list_any p xs
  is_some-position [] = refl
  is_some-position (x ∷ xs) = elim (cases_Bool (p x)) [
    | inl passes ↦ rw passes (some_first (length xs))
    | inr fails ↦ rw fails (sym (is_some_next (position_or_len p xs) (length xs)) ∙ is_some-position xs)
  ]
