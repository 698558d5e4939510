-- The queue of ready claims after a change of the places.
use Rattle.std.proofs.Common.{◌≡◌, ◌+◌, ◌==◌, ◌&&◌, ℕ, zero, suc, Bool, true, false, cond, List, [], ◌∷◌, ◌++◌, length, count_by, Some, None, refl, sym, ap, ◌∙◌, inl, inr, arith}
use Rattle.std.specs.List.{slice_get}
use Rattle.std.specs.Option.{option_map_or}
use Rattle.std.proofs.lemmas.Bool.{and_right, cases_Bool, cases_eq, eq-eqb, ne_eqb}
use Rattle.std.proofs.lemmas.List.Sums.{sum_by-cons, sum_by_push}
use Rattle.std.proofs.lemmas.Option.{none-some}
use Rattle.journal.specs.Places.{Phase, Place, is_ready}
use Rattle.journal.specs.Calls.{with_phase}
use Rattle.journal.specs.FamilyQueues.{AreQueued, ready_there}
use Rattle.journal.proofs.ClaimOrder.{and-true}

-- one if the flag is true, and zero otherwise
abbrev one_if : Bool → ℕ
one_if so = cond so 1 0

-- whether the claim at the changed place is ready
ready-same : (places : List Place) (i : ℕ) (p : Place) (phase : Phase) → slice_get places i ≡ Some p → ready_there (with_phase places i phase) i ≡ one_if (is_ready phase)
ready-same [] i p phase there = absurd (none-some p there)
ready-same (q ∷ qs) zero p phase there = refl
ready-same (q ∷ qs) (suc i) p phase there = ready-same qs i p phase there

-- whether the claims at other places are ready does not change
ready-other : (places : List Place) (i j : ℕ) (phase : Phase) → ¬ (j ≡ i) → ready_there (with_phase places i phase) j ≡ ready_there places j
ready-other [] i j phase other = refl
ready-other (q ∷ qs) zero zero phase other = absurd (other refl)
ready-other (q ∷ qs) zero (suc j) phase other = refl
ready-other (q ∷ qs) (suc i) zero phase other = refl
ready-other (q ∷ qs) (suc i) (suc j) phase other = ready-other qs i j phase (λ same. other (ap suc same))

-- whether the claim at an unchanged place is ready
ready-is : (places : List Place) (i : ℕ) (p : Place) → slice_get places i ≡ Some p → ready_there places i ≡ one_if (is_ready p.phase)
ready-is places i p there = ap (λ o. cond (option_map_or (λ (x : Place). is_ready x.phase) o false) 1 0) there

-- the count of a position in a queue with one more
count-more : (k i : ℕ) (queue : List ℕ) → count_by (λ x. x == k) (queue ++ i ∷ []) ≡ count_by (λ x. x == k) queue + one_if (i == k)
count-more k i queue = sum_by_push (λ x. one_if (x == k)) queue i

count-first : (k i : ℕ) (queue : List ℕ) → count_by (λ x. x == k) (i ∷ queue) ≡ one_if (i == k) + count_by (λ x. x == k) queue
count-first k i queue = sum_by-cons (λ x. one_if (x == k)) i queue

-- the queue after the change of a claim that is not ready before or after it
pub queue-same : (places : List Place) (queue : List ℕ) (i : ℕ) (p : Place) (phase : Phase) → AreQueued places queue → slice_get places i ≡ Some p
    → is_ready p.phase ≡ false → is_ready phase ≡ false → AreQueued (with_phase places i phase) queue
queue-same places queue i p phase h there was is k = elim (cases_eq k i) [
  | inl same ↦
      rw same (h i ∙ ready-is places i p there ∙ ap one_if (was ∙ sym is) ∙ sym (ready-same places i p phase there))
  | inr other ↦ h k ∙ sym (ready-other places i k phase other)
]

-- the queue after a claim becomes ready
pub queue-push : (places : List Place) (queue : List ℕ) (i : ℕ) (p : Place) (phase : Phase) → AreQueued places queue → slice_get places i ≡ Some p
    → is_ready p.phase ≡ false → is_ready phase ≡ true → AreQueued (with_phase places i phase) (queue ++ i ∷ [])
queue-push places queue i p phase h there was is k = elim (cases_eq k i) [
  | inl same ↦
      let before : count_by (λ x. x == i) queue ≡ 0 = h i ∙ ready-is places i p there ∙ ap one_if was in
      let after : ready_there (with_phase places i phase) i ≡ 1 = ready-same places i p phase there ∙ ap one_if is in
      let one : one_if (i == i) ≡ 1 = ap one_if (eq-eqb i i refl) in
      rw same (count-more i i queue ∙ omega (arith, before, after, one))
  | inr other ↦
      let none : one_if (i == k) ≡ 0 = ap one_if (ne_eqb i k (λ same. other (sym same))) in
      let before = h k in
      let after = ready-other places i k phase other in
      count-more k i queue ∙ omega (arith, before, after, none)
]

-- the queue after its first claim is taken
pub queue-pop : (places : List Place) (queue : List ℕ) (i : ℕ) (p : Place) (phase : Phase) → AreQueued places (i ∷ queue) → slice_get places i ≡ Some p
    → is_ready p.phase ≡ true → is_ready phase ≡ false → AreQueued (with_phase places i phase) queue
queue-pop places queue i p phase h there was is k = elim (cases_eq k i) [
  | inl same ↦
      let before : count_by (λ x. x == i) (i ∷ queue) ≡ 1 = h i ∙ ready-is places i p there ∙ ap one_if was in
      let after : ready_there (with_phase places i phase) i ≡ 0 = ready-same places i p phase there ∙ ap one_if is in
      let one : one_if (i == i) ≡ 1 = ap one_if (eq-eqb i i refl) in
      let parts = count-first i i queue in
      rw same (omega (arith, before, after, one, parts))
  | inr other ↦
      let parts = count-first k i queue in
      let none : one_if (i == k) ≡ 0 = ap one_if (ne_eqb i k (λ same. other (sym same))) in
      let before = h k in
      let after = ready-other places i k phase other in
      omega (arith, before, after, none, parts)
]

-- the first claim in the queue is ready
pub queue-first : (places : List Place) (queue : List ℕ) (i : ℕ) → AreQueued places (i ∷ queue) → (p : Place) × (slice_get places i ≡ Some p) × (is_ready p.phase ≡ true)
queue-first places queue i h =
    let some : ready_there places i ≡ 0 → ⊥ = λ none.
    let one : one_if (i == i) ≡ 1 = ap one_if (eq-eqb i i refl) in
    let count = h i in
    let parts = count-first i i queue in
    omega (arith, count, none, one, parts) in
    (elim (slice_get places i) as (λ o. (one_if (option_map_or (λ (x : Place). is_ready x.phase) o false) ≡ 0 → ⊥) → (p : Place) × (o ≡ Some p) × (is_ready p.phase ≡ true)) [
      | None ↦ λ f. absurd (f refl)
      | Some p ↦ λ f. elim (cases_Bool (is_ready p.phase)) [
        | inl ready ↦ (p, refl, ready)
        | inr not_ready ↦ absurd (f (ap one_if not_ready))
      ]
    ]) some

-- no claim is ready if the queue is empty
pub queue-empty : (places : List Place) → AreQueued places [] → (i : ℕ) (p : Place) → slice_get places i ≡ Some p → is_ready p.phase ≡ false
queue-empty places h i p there = elim (cases_Bool (is_ready p.phase)) [
  | inl ready ↦
      let one : ready_there places i ≡ 1 = ready-is places i p there ∙ ap one_if ready in
      let none = h i in
      absurd (omega (arith, one, none))
  | inr not_ready ↦ not_ready
]

-- whether earlier claims are ready does not change when a claim is added
ready-front : (places : List Place) (p : Place) (k : ℕ) → ¬ (k ≡ length places) → ready_there (places ++ p ∷ []) k ≡ ready_there places k
ready-front [] p zero other = absurd (other refl)
ready-front [] p (suc k) other = refl
ready-front (q ∷ qs) p zero other = refl
ready-front (q ∷ qs) p (suc k) other = ready-front qs p k (λ same. other (ap suc same))

ready-end : (places : List Place) (p : Place) → ready_there (places ++ p ∷ []) (length places) ≡ one_if (is_ready p.phase)
ready-end [] p = refl
ready-end (q ∷ qs) p = ready-end qs p

ready-past : (places : List Place) → ready_there places (length places) ≡ 0
ready-past [] = refl
ready-past (q ∷ qs) = ready-past qs

-- the count of a position after a claim is added, which may be ready
count-add : (queue : List ℕ) (ready : Bool) (n k : ℕ) → count_by (λ x. x == k) (cond ready (queue ++ n ∷ []) queue) ≡ count_by (λ x. x == k) queue + one_if (ready && (n == k))
count-add queue true n k = count-more k n queue
count-add queue false n k = omega arith

-- the queue after a claim is added
pub queue-add : (places : List Place) (queue : List ℕ) (p : Place) (n : ℕ) → n ≡ length places → AreQueued places queue
    → AreQueued (places ++ p ∷ []) (cond (is_ready p.phase) (queue ++ n ∷ []) queue)
queue-add places queue p n size h k = elim (cases_eq k (length places)) [
  | inl same ↦
      let equal : n == k ≡ true = eq-eqb n k (size ∙ sym same) in
      let before : count_by (λ x. x == k) queue ≡ 0 = h k ∙ ap (ready_there places) same ∙ ready-past places in
      let after : ready_there (places ++ p ∷ []) k ≡ one_if (is_ready p.phase) = ap (ready_there (places ++ p ∷ [])) same ∙ ready-end places p in
      let more : one_if (is_ready p.phase && (n == k)) ≡ one_if (is_ready p.phase) = ap (λ b. one_if (is_ready p.phase && b)) equal ∙ ap one_if (and-true (is_ready p.phase)) in
      count-add queue (is_ready p.phase) n k ∙ omega (arith, before, after, more)
  | inr other ↦
      let unequal : n == k ≡ false = ne_eqb n k (λ same. other (sym same ∙ size)) in
      let none : one_if (is_ready p.phase && (n == k)) ≡ 0 = ap one_if (and_right (is_ready p.phase) (n == k) unequal) in
      let before = h k in
      let after = ready-front places p k other in
      count-add queue (is_ready p.phase) n k ∙ omega (arith, before, after, none)
]
