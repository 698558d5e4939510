-- The links back to the last slots of an account and of its family and year, after one more slot is
-- added.
use Rattle.std.proofs.Common.{◌≡◌, ◌<◌, ◌≤◌, ◌+◌, ℕ, Bool, cond, List, [], ◌∷◌, ◌++◌, length, take, Option, Some, None, sym, ap, ◌∙◌, inl, inr, arith}
use Rattle.std.specs.List.{slice_get}
use Rattle.std.proofs.lemmas.List.{take-append-le, take_all}
use Rattle.std.proofs.lemmas.Option.{slice_get_within}
use Rattle.journal.specs.LastByKey.{AccumulatorKey, family_key, is_key}
use Rattle.journal.specs.FamilyQueues.{AreBacked, last_from, last_of, last_own, last_shared}
use Rattle.journal.proofs.Links.{get-push, get-front, get-end}

last_more_from : (n : ℕ) (test : AccumulatorKey → Bool) (ks : List AccumulatorKey) (k : AccumulatorKey) (found : Option ℕ)
    → last_from n test (ks ++ k ∷ []) found ≡ cond (test k) (Some (n + length ks)) (last_from n test ks found)
last_more_from n test [] k found = ap (λ m. cond (test k) (Some m) found) (let e : n ≡ n + 0 = omega arith in e)
last_more_from n test (x ∷ ks) k found =
    last_more_from (n + 1) test ks k (cond (test x) (Some n) found)
    ∙ ap (λ m. cond (test k) (Some m) (last_from (n + 1) test ks (cond (test x) (Some n) found))) (let e : n + 1 + length ks ≡ n + length (x ∷ ks) = omega arith in e)

last_more : (test : AccumulatorKey → Bool) (ks : List AccumulatorKey) (k : AccumulatorKey) → last_of test (ks ++ k ∷ []) ≡ cond (test k) (Some (length ks)) (last_of test ks)
last_more test ks k = last_more_from 0 test ks k None ∙ ap (λ m. cond (test k) (Some m) (last_of test ks)) (let e : 0 + length ks ≡ length ks = omega arith in e)

module _ (keys : List AccumulatorKey) (owns houses : List (Option ℕ)) (old_accounts old_family_years accounts family_years : AccumulatorKey → Option ℕ) (key : AccumulatorKey)
    (h : AreBacked keys owns houses old_accounts old_family_years) (owns_size : length owns ≡ length keys) (houses_size : length houses ≡ length keys)
    (accounts_reported : (q : AccumulatorKey) → accounts q ≡ cond (is_key key q) (Some (length keys)) (old_accounts q))
    (family_years_reported : (q : AccumulatorKey) → family_years (family_key q) ≡ cond (is_key (family_key key) (family_key q)) (Some (length keys)) (old_family_years (family_key q))) where
  abbrev pub more : List AccumulatorKey
  more = keys ++ key ∷ []

  front : (i : ℕ) → i ≤ length keys → take i more ≡ take i keys
  front i within = take-append-le i keys (key ∷ []) within

  whole : take (length keys) more ≡ keys
  whole = front (length keys) (omega arith) ∙ take_all (length keys) keys (omega arith)

  -- the links stay right after one more is added: each is the last position that the test finds
  -- before it
  backs : (last : AccumulatorKey → List AccumulatorKey → Option ℕ) (links : List (Option ℕ)) → length links ≡ length keys
      → ((i : ℕ) (q : AccumulatorKey) → slice_get keys i ≡ Some q → slice_get links i ≡ Some (last q (take i keys)))
      → (i : ℕ) (q : AccumulatorKey) → slice_get more i ≡ Some q → slice_get (links ++ last key keys ∷ []) i ≡ Some (last q (take i more))
  backs last links size each i q there = elim (get-push keys key q i there) [
    | inl earlier ↦
        let within : i < length keys = slice_get_within keys i q earlier in
        get-front links (last key keys) (last q (take i keys)) i (each i q earlier) ∙ ap (λ ks. Some (last q ks)) (sym (front i (omega (arith, within))))
    | inr newest ↦
        let at : i ≡ length links = newest.0 ∙ sym size in
        ap (slice_get (links ++ last key keys ∷ [])) at ∙ get-end links (last key keys)
        ∙ (λ i. Some (last (newest.1 i) (sym whole i)))
        ∙ ap (λ n. Some (last q (take n more))) (sym newest.0)
  ]

  pub backed-more : AreBacked more (owns ++ old_accounts key ∷ []) (houses ++ old_family_years (family_key key) ∷ []) accounts family_years
  backed-more = record {
    accounts_are = λ q.
        accounts_reported q ∙ ap (cond (is_key key q) (Some (length keys))) (h.accounts_are q) ∙ sym (last_more (λ k. is_key k q) keys key);
    family_years_are = λ q.
        family_years_reported q ∙ ap (cond (is_key (family_key key) (family_key q)) (Some (length keys))) (h.family_years_are q)
        ∙ sym (last_more (λ k. is_key (family_key k) (family_key q)) keys key);
    own = λ i q there.
        ap (λ o. slice_get (owns ++ o ∷ []) i) (h.accounts_are key) ∙ backs last_own owns owns_size h.own i q there;
    family_year = λ i q there.
        ap (λ o. slice_get (houses ++ o ∷ []) i) (h.family_years_are key) ∙ backs last_shared houses houses_size h.family_year i q there;
  }
