-- Lists of which one item is replaced, and sums over lists.
use Rattle.std.proofs.Common.{◌≡◌, ◌<◌, ◌≤◌, ◌+◌, ℕ, zero, suc, List, [], ◌∷◌, ◌++◌, drop, take, length, map, replicate, sum_by, get_or, slice_get, None, Some, refl, sym, ap, subst, ◌∙◌, inl, inr, arith}
use Rattle.std.specs.List.{slice_set}
use Rattle.std.proofs.lemmas.Bool.{cases_eq, cases_lt}
use Rattle.std.proofs.lemmas.List.{append-nil, drop_all, length-drop, take_all}
use Rattle.std.proofs.lemmas.List.Sums.{sum_by-set}
use Rattle.std.proofs.lemmas.Option.{none-some, same_Some, slice_get-get_or, slice_get_within}
use Rattle.journal.proofs.Grown.{earlier as before_it, grown, newest}

-- the item at an index
pub record ItemAt {A : Type 0} (xs : List A) (i : ℕ) : Type 0 where
  pub item : A
  pub there : slice_get xs i ≡ Some item

pub item_within : {A : Type 0} (xs : List A) (i : ℕ) → i < length xs → ItemAt xs i
item_within [] i within = absurd (omega (arith, within))
item_within (x ∷ xs) zero within = record { item = x; there = refl }
item_within (x ∷ xs) (suc i) within =
    let rest = item_within xs i (omega (arith, within)) in
    record { item = rest.item; there = rest.there }

-- past its end a list has the default
pub past_end : {A : Type 0} (xs : List A) (i : ℕ) (d : A) → length xs ≤ i → get_or xs i d ≡ d
past_end [] i d past = refl
past_end (x ∷ xs) zero d past = absurd (omega (arith, past))
past_end (x ∷ xs) (suc i) d past = past_end xs i d (omega (arith, past))

-- the first item after the first n items
pub first_after : {A : Type 0} (n : ℕ) (xs : List A) → slice_get (drop n xs) 0 ≡ slice_get xs n
first_after zero xs = refl
first_after (suc n) [] = refl
first_after (suc n) (x ∷ xs) = first_after n xs

pub set_same : {A : Type 0} (xs : List A) (i : ℕ) (old new : A) → slice_get xs i ≡ Some old → slice_get (slice_set xs i new) i ≡ Some new
set_same [] i old new there = absurd (none-some old there)
set_same (x ∷ xs) zero old new there = refl
set_same (x ∷ xs) (suc i) old new there = set_same xs i old new there

pub set_other : {A : Type 0} (xs : List A) (i j : ℕ) (new : A) → ¬ (j ≡ i) → slice_get (slice_set xs i new) j ≡ slice_get xs j
set_other [] i j new other = refl
set_other (x ∷ xs) zero zero new other = absurd (other refl)
set_other (x ∷ xs) zero (suc j) new other = refl
set_other (x ∷ xs) (suc i) zero new other = refl
set_other (x ∷ xs) (suc i) (suc j) new other = set_other xs i j new (λ same. other (ap suc same))

-- what is true of each item stays true if it is true of the new one
pub each_after : {A : Type 0} (P : ℕ → A → Type 0) (xs : List A) (i : ℕ) (old new : A) → slice_get xs i ≡ Some old → P i new
    → ((j : ℕ) (x : A) → slice_get xs j ≡ Some x → P j x) → (j : ℕ) (x : A) → slice_get (slice_set xs i new) j ≡ Some x → P j x
each_after P xs i old new there is each j x at =
    elim (cases_eq j i) [
      | inl same ↦
          let here : slice_get (slice_set xs i new) i ≡ Some x = subst (λ k. slice_get (slice_set xs i new) k ≡ Some x) same at in
          let item : new ≡ x = same_Some new x (sym (set_same xs i old new there) ∙ here) in
          subst (λ k. P k x) (sym same) (subst (P i) item is)
      | inr other ↦ each j x (sym (set_other xs i j new other) ∙ at)
    ]

-- what is true of each item stays true if it is true of one more
pub each_more : {A : Type 0} (P : ℕ → A → Type 0) (xs : List A) (x : A) → P (length xs) x → ((i : ℕ) (y : A) → slice_get xs i ≡ Some y → P i y)
    → (i : ℕ) (y : A) → slice_get (xs ++ x ∷ []) i ≡ Some y → P i y
each_more P xs x is each i y at =
    elim (grown xs x y i at) [
      | before_it there front below ↦ each i y there
      | newest here same front ↦ subst (P i) same (subst (λ k. P k x) (sym here) is)
    ]

-- a list in which there is no item at a place is no longer than that
pub no_longer : {A : Type 0} (xs : List A) (n : ℕ) → slice_get xs n ≡ None → length xs ≤ n
no_longer xs n none = elim (cases_lt n (length xs)) [
  | inl more ↦
      let next = item_within xs n more in
      absurd (none-some next.item (sym none ∙ next.there))
  | inr enough ↦ enough
]

-- after the whole list nothing is left
pub nothing_after : {A : Type 0} (n : ℕ) (xs : List A) → length xs ≤ n → drop 1 (drop n xs) ≡ drop n xs
nothing_after n xs all = drop_all 1 (drop n xs) (omega (arith, length-drop n xs)) ∙ sym (drop_all n xs all)

-- what a part of a list is written back to, if the part is the whole list
pub written_back : {A : Type 0} (n : ℕ) (old new : List A) → n ≡ length old → length new ≡ length old → take n (new ++ drop (length new) old) ≡ new
written_back n old new size long =
    ap (λ rest. take n (new ++ rest)) (drop_all (length new) old (omega (arith, long))) ∙ ap (λ xs. take n xs) (append-nil new) ∙ take_all n new (omega (arith, size, long))

-- numbers that are all zero
pub all_zero : {A : Type 0} (count : A → ℕ) (xs : List A) → ((i : ℕ) (x : A) → slice_get xs i ≡ Some x → count x ≡ 0) → map count xs ≡ replicate (length xs) 0
all_zero count [] none = refl
all_zero count (x ∷ xs) none =
    let first : count x ≡ 0 = none 0 x refl in
    let others : map count xs ≡ replicate (length xs) 0 = all_zero count xs (λ i y there. none (suc i) y there) in
    ap (λ n. n ∷ map count xs) first ∙ ap (λ ns. 0 ∷ ns) others

-- the number of the item at a place
pub number_at : {A : Type 0} (count : A → ℕ) (xs : List A) (i : ℕ) (x : A) → slice_get xs i ≡ Some x → get_or (map count xs) i 0 ≡ count x
number_at count [] i x there = absurd (none-some x there)
number_at count (y ∷ xs) zero x there = ap count (same_Some y x there)
number_at count (y ∷ xs) (suc i) x there = number_at count xs i x there

-- numbers do not change with an item whose number does not
pub same_numbers : {A : Type 0} (count : A → ℕ) (xs : List A) (i : ℕ) (old new : A) → slice_get xs i ≡ Some old → count new ≡ count old → map count (slice_set xs i new) ≡ map count xs
same_numbers count [] i old new there same = refl
same_numbers count (x ∷ xs) zero old new there same =
    let first : count new ≡ count x = same ∙ sym (ap count (same_Some x old there)) in
    ap (λ n. n ∷ map count xs) first
same_numbers count (x ∷ xs) (suc i) old new there same = ap (λ ns. count x ∷ ns) (same_numbers count xs i old new there same)

-- the sum of the numbers after an item is replaced
pub sum_after : {A : Type 0} (count : A → ℕ) (xs : List A) (i : ℕ) (old new : A) → slice_get xs i ≡ Some old
    → sum_by count (slice_set xs i new) + count old ≡ sum_by count xs + count new
sum_after count xs i old new there =
    let within = slice_get_within xs i old there in
    let read : get_or xs i old ≡ old = same_Some (get_or xs i old) old (sym (slice_get-get_or xs i old within) ∙ there) in
    subst (λ x. sum_by count (slice_set xs i new) + count x ≡ sum_by count xs + count new) read (sum_by-set count xs i new old within)
