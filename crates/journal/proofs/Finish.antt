-- The claims that a finished journal has accepted, and its finality.
use Rattle.std.proofs.Common.{◌≡◌, ℕ, zero, suc, ◌<◌, ◌≤◌, ◌+◌, ◌==◌, true, false, List, [], ◌∷◌, ◌++◌, take, drop, length, Option, Some, None, refl, sym, ap, ◌∙◌, subst, inl, inr, arith, take-append-drop, take_at, eqb-true, eq-eqb, add-zero}
use Rattle.std.proofs.lemmas.Bool.{both_ways, or_cases, or_left, and_parts, cases_lt, cases_eq}
use Rattle.std.proofs.lemmas.Option.{same_Some, slice_get_within}
use Rattle.journal.specs.Terms.{Terms, all_claims, at_most}
use Rattle.journal.specs.Events.{At, accepted_count, closed, is_end, has_end, is_take, has_take, has_decision, is_intake, reached, all_ended, due}
use Rattle.journal.specs.Lawful.{Sound, Lawful, Finished, ClosesWhenDue}
use Rattle.journal.specs.declared.event.Event.{Event}
use Rattle.journal.specs.declared.event.Event.TheVariants.{Accept, End, Close, Take, Decide}
use Rattle.journal.proofs.Grown.{slice_get-append, list_any-take}
use Rattle.journal.proofs.Fronts.{slice_get-drop, slice_get_at}
use Rattle.journal.proofs.Appends.{accepted-append, accepted-take}
use Rattle.journal.proofs.Counts.{accepted_within, accepted_all, Front, front_of, accepted_longer, none_accepted}
use Rattle.journal.proofs.Marks.{close_located, end_located, take_located, decision_located}

all_ended_each : (n : ℕ) (J : List Event) → all_ended n J ≡ true → (p : ℕ) → 1 ≤ p → p ≤ n → has_end J p ≡ true
all_ended_each zero J h p l m = let none : ⊥ = omega arith in absurd none
all_ended_each (suc n) J h p l m =
    let parts = and_parts (has_end J (suc n)) (all_ended n J) h in
    elim (cases_eq p (suc n)) [
      | inl e ↦ subst (λ w. has_end J w ≡ true) (sym e) parts.0
      | inr other ↦ all_ended_each n J parts.1 p l (omega arith)
    ]

module _ (T : Terms) (J : List Event) (S : Sound T J) (i : ℕ) (at : At J i Close) (C : ClosesWhenDue T J i) where
  -- no accept or end is at the close or after it
  late_intake : (j : ℕ) (event : Event) → At J (i + j) event → is_intake event ≡ false
  late_intake zero event h =
      let here : At J i event = subst (λ w. At J w event) (add-zero i) h in
      ap is_intake (same_Some event Close (sym here ∙ at))
  late_intake (suc j) event h = C.last (i + suc j) event (omega arith) h

  -- the close comes after all accepts
  accepted_at_close : accepted_count J ≡ accepted_count (take i J)
  accepted_at_close =
      let split : accepted_count (take i J ++ drop i J) ≡ accepted_count (take i J) + accepted_count (drop i J) = accepted-append (take i J) (drop i J) in
      let whole : accepted_count (take i J ++ drop i J) ≡ accepted_count J = ap accepted_count (take-append-drop i J) in
      let none : accepted_count (drop i J) ≡ 0 = none_accepted (drop i J) (λ j event h. late_intake j event (slice_get-drop i J j event h)) in
      omega arith

  -- if all providers have ended, all claims are accepted
  all_accepted : all_ended (length T.files) (take i J) ≡ true → accepted_count J ≡ all_claims T
  all_accepted h =
      accepted_all T J S
      (λ p l m.
      let e : has_end J p ≡ true = list_any-take (is_end p) i J (all_ended_each (length T.files) (take i J) h p l m) in
      let s = end_located J p e in
      (S.ends s.index p s.at).whole)

  -- the number of accepted claims is at most the cutoff
  not_past : (cutoff : ℕ) → T.cutoff ≡ Some cutoff → cutoff < accepted_count J → ⊥
  not_past cutoff is past =
      let f : Front cutoff J = front_of cutoff J (omega arith) in
      let same : accepted_count (take f.index J) ≡ cutoff = f.exactly in
      let met : reached T.cutoff (accepted_count (take f.index J)) ≡ true =
      ap (λ w. reached w (accepted_count (take f.index J))) is ∙ eq-eqb (accepted_count (take f.index J)) cutoff same in
      let now : due T (take f.index J) ≡ true =
      or_left (reached T.cutoff (accepted_count (take f.index J))) (all_ended (length T.files) (take f.index J)) met in
      elim (cases_lt f.index i) [
        | inl early ↦ both_ways (due T (take f.index J)) (C.first f.index early) now
        | inr late ↦
            let more : accepted_count (take i J) ≤ accepted_count (take f.index J) = accepted_longer i f.index J late in
            let all : accepted_count J ≡ accepted_count (take i J) = accepted_at_close in
            omega arith
      ]

  lesser : (o : Option ℕ) → T.cutoff ≡ o → accepted_count J ≡ at_most o (all_claims T)
  lesser None is =
      elim (or_cases (reached T.cutoff (accepted_count (take i J))) (all_ended (length T.files) (take i J)) C.when) [
        | inl met ↦ absurd (both_ways (reached T.cutoff (accepted_count (take i J))) (ap (λ w. reached w (accepted_count (take i J))) is) met)
        | inr ends ↦ all_accepted ends
      ]
  lesser (Some cutoff) is =
      let within : accepted_count J ≤ all_claims T = accepted_within T J S in
      elim (or_cases (reached T.cutoff (accepted_count (take i J))) (all_ended (length T.files) (take i J)) C.when) [
        | inl met ↦
            let test : (accepted_count (take i J) == cutoff) ≡ true = ap (λ w. reached w (accepted_count (take i J))) (sym is) ∙ met in
            let same : accepted_count (take i J) ≡ cutoff = eqb-true (accepted_count (take i J)) cutoff test in
            let all : accepted_count J ≡ accepted_count (take i J) = accepted_at_close in
            omega arith
        | inr ends ↦
            let all : accepted_count J ≡ all_claims T = all_accepted ends in
            elim (cases_lt cutoff (accepted_count J)) [
              | inl past ↦ absurd (not_past cutoff is past)
              | inr fits ↦ omega arith
            ]
      ]

-- a closed journal has accepted all claims, or as many as the cutoff
pub closed_count : (T : Terms) (J : List Event) → Sound T J → closed J ≡ true → accepted_count J ≡ at_most T.cutoff (all_claims T)
closed_count T J S is_closed =
    let s = close_located J is_closed in
    lesser T J S s.index s.at (S.closes s.index s.at) T.cutoff refl

pub finished_count : (T : Terms) (J : List Event) → Finished T J → accepted_count J ≡ at_most T.cutoff (all_claims T)
finished_count T J F = closed_count T J F.lawful.sound F.closed

-- a position that was taken is an accepted one
taken_accepted : (T : Terms) (J : List Event) → Sound T J → (k : ℕ) → has_take J k ≡ true → k < accepted_count J
taken_accepted T J S k h =
    let s = take_located J k h in
    let following : k < accepted_count (take s.index J) = (S.takes s.index k s.at).following in
    let within : accepted_count (take s.index J) ≤ accepted_count J = accepted-take s.index J in
    omega arith

-- a position that was decided was taken
pub decided_taken : (T : Terms) (J : List Event) → Sound T J → (k : ℕ) → has_decision J k ≡ true → has_take J k ≡ true
decided_taken T J S k h =
    let s = decision_located J k h in
    list_any-take (is_take k) s.index J (S.decides s.index k s.decision s.at).following

nothing_follows : (T : Terms) (J : List Event) (event : Event) (rest : List Event) → Finished T J → Sound T (J ++ event ∷ rest) → At (J ++ event ∷ rest) (length J) event → take (length J) (J ++ event ∷ rest) ≡ J
    → (i : ℕ) → i < length J → ClosesWhenDue T (J ++ event ∷ rest) i → ⊥
nothing_follows T J (Accept p place) rest F L at front i below C = both_ways true (C.last (length J) (Accept p place) below at) refl
nothing_follows T J (End p) rest F L at front i below C = both_ways true (C.last (length J) (End p) below at) refl
nothing_follows T J Close rest F L at front i below C =
    both_ways (due T (take i (J ++ Close ∷ rest))) ((L.closes (length J) at).first i below) C.when
nothing_follows T J (Take k) rest F L at front i below C =
    let t = L.takes (length J) k at in
    let following : k < accepted_count J = subst (λ w. k < accepted_count w) front t.following in
    let once : has_take J k ≡ false = subst (λ w. has_take w k ≡ false) front t.once in
    both_ways (has_take J k) once (decided_taken T J F.lawful.sound k (F.all k following))
nothing_follows T J (Decide k o) rest F L at front i below C =
    let d = L.decides (length J) k o at in
    let following : has_take J k ≡ true = subst (λ w. has_take w k ≡ true) front d.following in
    let once : has_decision J k ≡ false = subst (λ w. has_decision w k ≡ false) front d.once in
    both_ways (has_decision J k) once (F.all k (taken_accepted T J F.lawful.sound k following))

pub finished_final : (T : Terms) (J rest : List Event) → Finished T J → Lawful T (J ++ rest) → rest ≡ []
finished_final T J [] F L = refl
finished_final T J (event ∷ rest) F L =
    let s = close_located J F.closed in
    let C = L.sound.closes s.index (slice_get-append J (event ∷ rest) s.index Close s.at) in
    absurd
    (nothing_follows T J event rest F L.sound (slice_get_at J event rest) (take_at J (event ∷ rest) (length J) refl) s.index
    (slice_get_within J s.index Close s.at) C)
