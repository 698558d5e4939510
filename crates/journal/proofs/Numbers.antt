-- The numbers of names after one more name is added.
use Rattle.std.proofs.Common.{◌≡◌, ◌⊎◌, ℕ, zero, suc, false, cond, List, [], ◌∷◌, ◌++◌, length, Option, Some, None, refl, sym, ap, ◌∙◌, inl, inr}
use Rattle.std.specs.List.{slice_get}
use Rattle.std.specs.Option.{IfNone, IfSome}
use Rattle.std.specs.Ordering.{nat_cmp}
use Rattle.std.specs.BTreeMap.{BTreeMap, Updates}
use Rattle.std.specs.Cmp.Lexicographic.{slice_cmp, texts_ties}
use Rattle.std.specs.Str.{bytes_eq}
use Rattle.std.proofs.lemmas.Bool.{cases_Bool, false_from_ne_true}
use Rattle.std.proofs.lemmas.Option.{none-some, same_Some}
use Rattle.std.proofs.lemmas.Slice.Eq.{bytes_eq-Decides}
use Rattle.journal.specs.Names.{AreDistinct, AreNumbered, IsAbsent, number_in}

pub distinct-names : (names : List (List ℕ)) (numbers : BTreeMap (List ℕ) ℕ) → AreNumbered names numbers → AreDistinct names
distinct-names names numbers h i j m one two = same_Some i j (sym (h.each m i one) ∙ h.each m j two)

-- the result of a lookup in the map
pub look-found : (names : List (List ℕ)) (numbers : BTreeMap (List ℕ) ℕ) (m : List ℕ) (o : Option ℕ) → AreNumbered names numbers → o ≡ number_in numbers m
    → IfSome o (λ k. slice_get names k ≡ Some m)
look-found names numbers m None h is = tt
look-found names numbers m (Some k) h is = h.found m k (sym is)

pub look-absent : (names : List (List ℕ)) (numbers : BTreeMap (List ℕ) ℕ) (m : List ℕ) (o : Option ℕ) → AreNumbered names numbers → o ≡ number_in numbers m
    → IfNone o (IsAbsent names m)
look-absent names numbers m None h is = λ k there. none-some k (is ∙ h.each m k there)
look-absent names numbers m (Some k) h is = tt

-- the items of a list with one more item
last-there : {X : Type 0} (xs : List X) (x : X) → slice_get (xs ++ x ∷ []) (length xs) ≡ Some x
last-there [] x = refl
last-there (y ∷ xs) x = last-there xs x

before-there : {X : Type 0} (xs : List X) (x y : X) (k : ℕ) → slice_get xs k ≡ Some y → slice_get (xs ++ x ∷ []) k ≡ Some y
before-there [] x y k there = absurd (none-some y there)
before-there (z ∷ xs) x y zero there = there
before-there (z ∷ xs) x y (suc k) there = before-there xs x y k there

-- an item of the longer list is the last one or an item of the shorter list
last-or-there : {X : Type 0} (xs : List X) (x y : X) (k : ℕ) → slice_get (xs ++ x ∷ []) k ≡ Some y → ((k ≡ length xs) × (y ≡ x)) ⊎ (slice_get xs k ≡ Some y)
last-or-there [] x y zero there = inl (refl, sym (same_Some x y there))
last-or-there [] x y (suc k) there = absurd (none-some y there)
last-or-there (z ∷ xs) x y zero there = inr there
last-or-there (z ∷ xs) x y (suc k) there = elim (last-or-there xs x y k there) [
  | inl last ↦ inl (ap (λ n. suc n) last.0, last.1)
  | inr before ↦ inr before
]

-- the map after a new name is added
pub record Enters (names : List (List ℕ)) (old new : BTreeMap (List ℕ) ℕ) (name : List ℕ) : Type 0 where
  pub numbered : AreNumbered names old
  pub absent : IsAbsent names name
  pub updates : (q : List ℕ) → number_in new q ≡ cond (bytes_eq name q) (Some (length names)) (number_in old q)

-- the result of an insertion
pub enters : (names : List (List ℕ)) (old new : BTreeMap (List ℕ) ℕ) (key name : List ℕ) (number : ℕ) → AreNumbered names old → key ≡ name
    → IsAbsent names name → number ≡ length names → Updates (slice_cmp nat_cmp) old new key (Some number) → Enters names old new name
enters names old new key name number h key_is absent is updates = record {
  numbered = h;
  absent = absent;
  updates = λ q. rw (is, key_is) at (updates.0 q ∙ ap (λ here. cond here (Some number) (number_in old q)) (sym (texts_ties key q)));
}

entered-found : (names : List (List ℕ)) (old new : BTreeMap (List ℕ) ℕ) (name : List ℕ) → Enters names old new name
    → (q : List ℕ) (k : ℕ) → number_in new q ≡ Some k → slice_get (names ++ name ∷ []) k ≡ Some q
entered-found names old new name h q k there = elim (cases_Bool (bytes_eq name q)) [
  | inl here ↦
      let found = sym (h.updates q) ∙ there in
      let last : length names ≡ k = same_Some _ _ (rw here at found) in
      ap (slice_get (names ++ name ∷ [])) (sym last) ∙ last-there names name ∙ ap Some ((bytes_eq-Decides name q).0 here)
  | inr other ↦
      let found = sym (h.updates q) ∙ there in
      before-there names name q k (h.numbered.found q k (rw other at found))
]

entered-each : (names : List (List ℕ)) (old new : BTreeMap (List ℕ) ℕ) (name : List ℕ) → Enters names old new name
    → (q : List ℕ) (k : ℕ) → slice_get (names ++ name ∷ []) k ≡ Some q → number_in new q ≡ Some k
entered-each names old new name h q k there = elim (last-or-there names name q k there) [
  | inl last ↦
      let same = (bytes_eq-Decides name name).1 refl in
      ap (number_in new) last.1 ∙ h.updates name ∙ (rw same (ap Some (sym last.0)))
  | inr before ↦
      let other : bytes_eq name q ≡ false = false_from_ne_true _ (λ same. h.absent k (before ∙ ap Some (sym ((bytes_eq-Decides name q).0 same)))) in
      h.updates q ∙ (rw other (h.numbered.each q k before))
]

-- the map stays right for the longer list of names
pub numbered-more : (names : List (List ℕ)) (old new : BTreeMap (List ℕ) ℕ) (name : List ℕ) → Enters names old new name → AreNumbered (names ++ name ∷ []) new
numbered-more names old new name h = record { found = entered-found names old new name h; each = entered-each names old new name h }

-- a map with the same entries is right for the same names
pub numbered-same : (names : List (List ℕ)) (old new : BTreeMap (List ℕ) ℕ) → new.entries ≡ old.entries → AreNumbered names old → AreNumbered names new
numbered-same names old new same h = record {
  found = λ m k there. h.found m k (rw same at there);
  each = λ m k there. rw same (h.each m k there);
}

-- the new number is that of the new name
pub name-new : (names : List (List ℕ)) (name : List ℕ) (number : ℕ) → number ≡ length names → slice_get (names ++ name ∷ []) number ≡ Some name
name-new names name number is = ap (slice_get (names ++ name ∷ [])) is ∙ last-there names name
