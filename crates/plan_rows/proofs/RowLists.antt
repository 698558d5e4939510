-- Lists that are gone through from the front.
use Rattle.std.proofs.Common.{◌≡◌, ◌≢◌, ◌<◌, ◌+◌, ℕ, zero, suc, Bool, true, false, ◌==◌, List, [], ◌∷◌, ◌++◌, length, set, take, drop, get_or, Option, Some, None, slice_get, inl, inr, Bor, refl, sym, ap, ◌∙◌, arith}
use Rattle.std.specs.List.{list_any}
use Rattle.std.proofs.lemmas.Bool.{false≢true, cases_Bool, eqb-true}
use Rattle.std.specs.Option.{option_map}
use Rattle.std.proofs.lemmas.Option.{none-some}
use Rattle.csv.specs.Records.{field_at}
use Rattle.intake_csv.proofs.Lists.{field_at-within}

-- the front with one more item
pub take_next : {A : Type 0} (xs : List A) (n : ℕ) (x : A) (rest : List A) → drop n xs ≡ x ∷ rest → take (n + 1) xs ≡ take n xs ++ x ∷ []
take_next [] zero x rest e = absurd (cc e)
take_next [] (suc n) x rest e = absurd (cc e)
take_next (y ∷ ys) zero x rest e = let same : y ≡ x = cc e in ap (λ z. z ∷ []) same
take_next (y ∷ ys) (suc n) x rest e = let after : suc n + 1 ≡ suc (n + 1) = omega arith in rw after (ap (λ zs. y ∷ zs) (take_next ys n x rest e))

-- the front is the whole list if nothing remains
pub take_whole : {A : Type 0} (xs : List A) (n : ℕ) → drop n xs ≡ [] → take n xs ≡ xs
take_whole [] zero e = refl
take_whole [] (suc n) e = refl
take_whole (y ∷ ys) zero e = absurd (cc e)
take_whole (y ∷ ys) (suc n) e = ap (λ zs. y ∷ zs) (take_whole ys n e)

-- an item that passes the test, with its index
pub record Passes {A : Type 0} (test : A → Bool) (xs : List A) : Type 0 where
  pub index : ℕ
  pub item : A
  pub within : index < length xs
  pub present : slice_get xs index ≡ Some item
  pub passes : test item ≡ true

pub some_passes : {A : Type 0} (test : A → Bool) (xs : List A) → list_any test xs ≡ true → Passes test xs
some_passes test [] any = absurd (false≢true any)
some_passes test (x ∷ xs) any =
    elim (cases_Bool (test x)) [
      | inl passes ↦ record { index = 0; item = x; within = omega arith; present = refl; passes = passes }
      | inr fails ↦
          let p = some_passes test xs (rw fails at any) in
          record { index = suc p.index; item = p.item; within = omega (arith, p.within); present = p.present; passes = p.passes }
    ]

-- no item passes the test
pub none_passes : {A : Type 0} (test : A → Bool) (xs : List A) (index : ℕ) (item : A) → list_any test xs ≡ false → slice_get xs index ≡ Some item → test item ≡ false
none_passes test [] index item none present = absurd (cc present)
none_passes test (x ∷ xs) zero item none present =
    elim (cases_Bool (test x)) [
      | inl passes ↦ absurd (false≢true (sym (rw passes at none)))
      | inr fails ↦ let same : x ≡ item = cc present in ap test (sym same) ∙ fails
    ]
none_passes test (x ∷ xs) (suc index) item none present =
    elim (cases_Bool (test x)) [
      | inl passes ↦ absurd (false≢true (sym (rw passes at none)))
      | inr fails ↦ none_passes test xs index item (rw fails at none) present
    ]

pub set_same : {A : Type 0} (xs : List A) (i : ℕ) (y : A) → i < length xs → slice_get (set xs i y) i ≡ Some y
set_same [] i y below = absurd (omega (arith, below))
set_same (x ∷ xs) zero y below = refl
set_same (x ∷ xs) (suc i) y below = set_same xs i y (omega (arith, below))

pub set_other : {A : Type 0} (xs : List A) (i j : ℕ) (y : A) → j ≢ i → slice_get (set xs i y) j ≡ slice_get xs j
set_other [] i j y apart = refl
set_other (x ∷ xs) zero zero y apart = absurd (apart refl)
set_other (x ∷ xs) zero (suc j) y apart = refl
set_other (x ∷ xs) (suc i) zero y apart = refl
set_other (x ∷ xs) (suc i) (suc j) y apart = set_other xs i j y (λ e. apart (ap suc e))

-- each place within a record has a field
pub field_missing : (found : Option (Bor (List ℕ))) (fields : List (List ℕ)) (place : ℕ) → place < length fields → option_map (λ (s : Bor (List ℕ)). s.now) found ≡ field_at fields place
    → found ≡ None → ⊥
field_missing found fields place within value none =
    none-some (get_or fields place []) (sym (ap (option_map (λ (s : Bor (List ℕ)). s.now)) none) ∙ value ∙ field_at-within fields place within)

-- a list is empty exactly where its length is 0
pub empty_if : (xs : List ℕ) (none : Bool) → none ≡ (length xs == 0) → none ≡ true → xs ≡ []
empty_if [] none is holds = refl
empty_if (x ∷ xs) none is holds = let size = eqb-true (length (x ∷ xs)) 0 (sym is ∙ holds) in absurd (omega (arith, size))

pub some_if : (xs : List ℕ) (none : Bool) → none ≡ (length xs == 0) → none ≡ false → xs ≢ []
some_if xs none is fails empty = false≢true (sym fails ∙ is ∙ ap (λ (ys : List ℕ). length ys == 0) empty)
