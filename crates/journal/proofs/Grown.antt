-- Lists that grow at the end.
use Rattle.std.proofs.Common.{◌≡◌, ℕ, zero, suc, ◌<◌, Bool, true, false, List, [], ◌∷◌, ◌++◌, take, drop, length, slice_get, Some, flat_map, refl, sym, ap, ◌∙◌, subst, inl, inr, arith, append_assoc, take-append-drop}
use Rattle.std.specs.List.{list_any}
use Rattle.std.proofs.lemmas.Bool.{or_cases, or_left, or_right, both_ways}
use Rattle.std.proofs.lemmas.List.Folds.{list_any-append}
use Rattle.std.proofs.lemmas.Option.{same_Some, none-some}

-- an element of a list with one more element at the end is an earlier element or the new one
pub data Grown {A : Type 0} (xs : List A) (x y : A) (i : ℕ) : Type 0 where
  earlier : slice_get xs i ≡ Some y → take i (xs ++ x ∷ []) ≡ take i xs → i < length xs → Grown xs x y i
  newest : i ≡ length xs → x ≡ y → take i (xs ++ x ∷ []) ≡ xs → Grown xs x y i

pub grown : {A : Type 0} (xs : List A) (x y : A) (i : ℕ) → slice_get (xs ++ x ∷ []) i ≡ Some y → Grown xs x y i
grown [] x y zero h = newest refl (same_Some x y h) refl
grown [] x y (suc i) h = absurd (none-some y h)
grown (z ∷ xs) x y zero h = earlier h refl (omega arith)
grown (z ∷ xs) x y (suc i) h =
    elim (grown xs x y i h) [
      | earlier there front below ↦ earlier there (ap (λ w. z ∷ w) front) (omega arith)
      | newest at is front ↦ newest (ap suc at) is (ap (λ w. z ∷ w) front)
    ]

-- an element of a list has the same index in a longer list
pub slice_get-append : {A : Type 0} (xs ys : List A) (i : ℕ) (x : A) → slice_get xs i ≡ Some x → slice_get (xs ++ ys) i ≡ Some x
slice_get-append [] ys i x h = absurd (none-some x h)
slice_get-append (z ∷ xs) ys zero x h = h
slice_get-append (z ∷ xs) ys (suc i) x h = slice_get-append xs ys i x h

pub flat_map-append : {X A : Type 0} (f : X → List A) (xs ys : List X) → flat_map f (xs ++ ys) ≡ flat_map f xs ++ flat_map f ys
flat_map-append f [] ys = refl
flat_map-append f (x ∷ xs) ys = ap (λ w. f x ++ w) (flat_map-append f xs ys) ∙ sym (append_assoc (f x) (flat_map f xs) (flat_map f ys))

-- an element that passes a test, and its index
pub record Found {A : Type 0} (test : A → Bool) (xs : List A) : Type 0 where
  pub index : ℕ
  pub element : A
  pub located : slice_get xs index ≡ Some element
  pub passes : test element ≡ true

pub found : {A : Type 0} (test : A → Bool) (xs : List A) → list_any test xs ≡ true → Found test xs
found test [] h = absurd (both_ways false refl h)
found test (x ∷ xs) h =
    elim (or_cases (test x) (list_any test xs) h) [
      | inl here ↦ record { index = zero; element = x; located = refl; passes = here }
      | inr later ↦
          let f = found test xs later in
          record { index = suc f.index; element = f.element; located = f.located; passes = f.passes }
    ]

pub list_any-at : {A : Type 0} (test : A → Bool) (xs : List A) (i : ℕ) (x : A) → slice_get xs i ≡ Some x → test x ≡ true → list_any test xs ≡ true
list_any-at test [] i x h p = absurd (none-some x h)
list_any-at test (z ∷ xs) zero x h p = or_left (test z) (list_any test xs) (ap test (same_Some z x h) ∙ p)
list_any-at test (z ∷ xs) (suc i) x h p = or_right (test z) (list_any test xs) (list_any-at test xs i x h p)

-- a list that is continued still has an element that passes the test
pub list_any_stays : {A : Type 0} (test : A → Bool) (xs ys : List A) → list_any test xs ≡ true → list_any test (xs ++ ys) ≡ true
list_any_stays test xs ys h = list_any-append test xs ys ∙ or_left (list_any test xs) (list_any test ys) h

pub list_any-take : {A : Type 0} (test : A → Bool) (i : ℕ) (xs : List A) → list_any test (take i xs) ≡ true → list_any test xs ≡ true
list_any-take test i xs h = subst (λ w. list_any test w ≡ true) (take-append-drop i xs) (list_any_stays test (take i xs) (drop i xs) h)
