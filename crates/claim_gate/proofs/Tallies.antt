-- The number of elements of a list that pass a test.
use Rattle.std.proofs.Common.{◌≡◌, ℕ, suc, ◌≤◌, ◌+◌, ◌==◌, Bool, true, false, cond, List, [], ◌∷◌, length, refl, sym, ap, ◌∙◌, inl, inr, arith, eq-eqb, ne_eqb}
use Rattle.std.specs.List.{list_all, count_by}
use Rattle.std.proofs.lemmas.Bool.{both_ways, cases_Bool, cond-true, cond-false, and_from, and_parts}
use Rattle.std.proofs.lemmas.List.Sums.{sum_by-cons, count_by-le-length}

one_and : (n : ℕ) → 1 + n ≡ suc n
one_and n = omega arith

none_and : (n : ℕ) → 0 + n ≡ n
none_and n = omega arith

-- a first element that passes the test adds one to the count
pub count_by-yes : {X : Type 0} (p : X → Bool) (x : X) (xs : List X) → p x ≡ true → count_by p (x ∷ xs) ≡ suc (count_by p xs)
count_by-yes p x xs h =
    sum_by-cons (λ y. cond (p y) 1 0) x xs ∙ ap (λ n. n + count_by p xs) (cond-true {A = ℕ} (p x) 1 0 h) ∙ one_and (count_by p xs)

pub count_by-no : {X : Type 0} (p : X → Bool) (x : X) (xs : List X) → p x ≡ false → count_by p (x ∷ xs) ≡ count_by p xs
count_by-no p x xs h =
    sum_by-cons (λ y. cond (p y) 1 0) x xs ∙ ap (λ n. n + count_by p xs) (cond-false {A = ℕ} (p x) 1 0 h) ∙ none_and (count_by p xs)

all_counted : {X : Type 0} (p : X → Bool) (xs : List X) → list_all p xs ≡ true → count_by p xs ≡ length xs
all_counted p [] h = refl
all_counted p (x ∷ xs) h =
    let parts = and_parts (p x) (list_all p xs) h in
    count_by-yes p x xs parts.0 ∙ ap suc (all_counted p xs parts.1)

pub counted_all : {X : Type 0} (p : X → Bool) (xs : List X) → count_by p xs ≡ length xs → list_all p xs ≡ true
counted_all p [] h = refl
counted_all p (x ∷ xs) h =
    elim (cases_Bool (p x)) [
      | inl passes ↦
          let one : count_by p (x ∷ xs) ≡ suc (count_by p xs) = count_by-yes p x xs passes in
          let rest : count_by p xs ≡ length xs = omega arith in
          and_from (p x) (list_all p xs) passes (counted_all p xs rest)
      | inr fails ↦
          let none : count_by p (x ∷ xs) ≡ count_by p xs = count_by-no p x xs fails in
          let most : count_by p xs ≤ length xs = count_by-le-length p xs in
          let never : ⊥ = omega arith in
          absurd never
    ]

-- all elements pass exactly if the count is the length of the list
pub all_by_count : {X : Type 0} (p : X → Bool) (xs : List X) → (count_by p xs == length xs) ≡ list_all p xs
all_by_count p xs =
    elim (cases_Bool (list_all p xs)) [
      | inl every ↦ eq-eqb (count_by p xs) (length xs) (all_counted p xs every) ∙ sym every
      | inr lacks ↦ ne_eqb (count_by p xs) (length xs) (λ h. both_ways (list_all p xs) lacks (counted_all p xs h)) ∙ sym lacks
    ]
