-- If an event that fits is appended, each event still obeys its rule.
use Rattle.std.proofs.Common.{◌≡◌, ℕ, suc, ◌<◌, ◌≤◌, ◌+◌, true, false, List, [], ◌∷◌, ◌++◌, take, length, refl, sym, ap, ◌∙◌, subst, arith, add-one}
use Rattle.std.proofs.lemmas.Bool.{both_ways}
use Rattle.std.proofs.lemmas.List.{length_push, take-append-le}
use Rattle.settlement.specs.declared.outcome.Outcome.{Outcome}
use Rattle.journal.specs.Terms.{Terms, claims_of}
use Rattle.journal.specs.Events.{At, accepted_count, places, has_end, closed, has_take, has_decision, is_close, is_intake, lane_at, due}
use Rattle.journal.specs.Lawful.{numbers_below, EndsWhole, ClosesWhenDue, TakesInTurn, DecidesRight, Sound, IsReady, IsNextClaim, IsNextEnd, IsNextClose, IsNextDecision, Fits}
use Rattle.journal.specs.declared.event.Event.{Event}
use Rattle.journal.specs.declared.event.Event.TheVariants.{Accept, End, Close, Take, Decide}
use Rattle.journal.proofs.Grown.{earlier, newest, grown, list_any-at}
use Rattle.journal.proofs.Appends.{same, next, placed, accepted-take, lane_at-append, IsSettled-append}

counted_push : (xs : List ℕ) (x : ℕ) → x ≡ length xs → xs ≡ numbers_below (length xs) → xs ++ x ∷ [] ≡ numbers_below (length (xs ++ x ∷ []))
counted_push xs x is h =
    let long : length (xs ++ x ∷ []) ≡ suc (length xs) = length_push xs x ∙ add-one (length xs) in
    let here : xs ++ x ∷ [] ≡ numbers_below (length xs) ++ length xs ∷ [] = ap (λ w. w ++ x ∷ []) h ∙ ap (λ w. numbers_below (length xs) ++ w ∷ []) is in
    here ∙ ap numbers_below (sym long)

-- a closed journal accepts no more claims and ends no more providers
no_intake : (T : Terms) (J : List Event) (event : Event) → Fits T J event → closed J ≡ true → is_intake event ≡ false
no_intake T J (Accept p place) f h = absurd (both_ways (closed J) f.open_yet h)
no_intake T J (End p) f h = absurd (both_ways (closed J) f.open_yet h)
no_intake T J Close f h = refl
no_intake T J (Take k) f h = refl
no_intake T J (Decide k o) f h = refl

module _ (T : Terms) (J : List Event) (event : Event) (S : Sound T J) (fits : Fits T J event) where
  in_order_more : (provider : ℕ) → places (J ++ event ∷ []) provider ≡ numbers_below (length (places (J ++ event ∷ []) provider))
  in_order_more provider =
      elim (placed J event provider) [
        | same e ↦ subst (λ w. w ≡ numbers_below (length w)) (sym e) (S.in_order provider)
        | next place is e ↦
            let f : IsNextClaim T J provider place = subst (Fits T J) is fits in
            subst (λ w. w ≡ numbers_below (length w)) (sym e) (counted_push (places J provider) place f.place_is (S.in_order provider))
      ]

  within_more : (provider : ℕ) → length (places (J ++ event ∷ []) provider) ≤ length (claims_of T provider)
  within_more provider =
      elim (placed J event provider) [
        | same e ↦ subst (λ w. length w ≤ length (claims_of T provider)) (sym e) (S.within provider)
        | next place is e ↦
            let f : IsNextClaim T J provider place = subst (Fits T J) is fits in
            let there : place < length (claims_of T provider) = f.there in
            let at : place ≡ length (places J provider) = f.place_is in
            let long : length (places J provider ++ place ∷ []) ≡ length (places J provider) + 1 = length_push (places J provider) place in
            let fit : length (places J provider ++ place ∷ []) ≤ length (claims_of T provider) = omega arith in
            subst (λ w. length w ≤ length (claims_of T provider)) (sym e) fit
      ]

  -- the places of a provider that has ended, or ends now, do not change
  places_stay : (provider : ℕ) → length (places J provider) ≡ length (claims_of T provider) → places (J ++ event ∷ []) provider ≡ places J provider
  places_stay provider whole =
      elim (placed J event provider) [
        | same e ↦ e
        | next place is e ↦
            let f : IsNextClaim T J provider place = subst (Fits T J) is fits in
            let there : place < length (claims_of T provider) = f.there in
            let at : place ≡ length (places J provider) = f.place_is in
            let no_room : ⊥ = omega arith in
            absurd no_room
      ]

  ends_more : (i provider : ℕ) → At (J ++ event ∷ []) i (End provider) → EndsWhole T (J ++ event ∷ []) i provider
  ends_more i provider h =
      elim (grown J event (End provider) i h) [
        | earlier at front below ↦
            let old = S.ends i provider at in
            let stay = places_stay provider old.whole in
            record {
              known = old.known;
              whole = ap length stay ∙ old.whole;
              following = ap (λ w. places w provider) front ∙ old.following ∙ sym stay;
              once = ap (λ w. has_end w provider) front ∙ old.once;
            }
        | newest at is front ↦
            let f : IsNextEnd T J provider = subst (Fits T J) is fits in
            let stay = places_stay provider f.whole in
            record {
              known = f.known;
              whole = ap length stay ∙ f.whole;
              following = ap (λ w. places w provider) front ∙ sym stay;
              once = ap (λ w. has_end w provider) front ∙ f.once;
            }
      ]

  due_before : (i : ℕ) → i ≤ length J → due T (take i J) ≡ false → due T (take i (J ++ event ∷ [])) ≡ false
  due_before i within h = ap (due T) (take-append-le i J (event ∷ []) within) ∙ h

  closes_more : (i : ℕ) → At (J ++ event ∷ []) i Close → ClosesWhenDue T (J ++ event ∷ []) i
  closes_more i h =
      elim (grown J event Close i h) [
        | earlier at front below ↦
            let old = S.closes i at in
            record {
              when = ap (due T) front ∙ old.when;
              first = λ j l. due_before j (omega arith) (old.first j l);
              last = λ j e l there.
                  elim (grown J event e j there) [
                    | earlier at' front' below' ↦ old.last j e l at'
                    | newest at' is' front' ↦ ap is_intake (sym is') ∙ no_intake T J event fits (list_any-at is_close J i Close at refl)
                  ];
            }
        | newest at is front ↦
            let f : IsNextClose T J = subst (Fits T J) is fits in
            record {
              when = ap (due T) front ∙ f.when;
              first = λ j l. due_before j (omega arith) (f.first j (omega arith));
              last = λ j e l there.
                  elim (grown J event e j there) [
                    | earlier at' front' below' ↦ let no_room : ⊥ = omega arith in absurd no_room
                    | newest at' is' front' ↦ let no_room : ⊥ = omega arith in absurd no_room
                  ];
            }
      ]

  member_stays : (k : ℕ) → k < accepted_count J → lane_at T (J ++ event ∷ []) k ≡ lane_at T J k
  member_stays k below = lane_at-append T J (event ∷ []) k below

  takes_more : (i k : ℕ) → At (J ++ event ∷ []) i (Take k) → TakesInTurn T (J ++ event ∷ []) i k
  takes_more i k h =
      elim (grown J event (Take k) i h) [
        | earlier at front below ↦
            let old = S.takes i k at in
            let within : accepted_count (take i J) ≤ accepted_count J = accepted-take i J in
            let here : k < accepted_count (take i J) = old.following in
            record {
              following = subst (λ w. k < accepted_count w) (sym front) old.following;
              once = ap (λ w. has_take w k) front ∙ old.once;
              in_turn = λ j l m.
                  ap (λ w. has_decision w j) front ∙ old.in_turn j l (sym (member_stays j (omega arith)) ∙ m ∙ member_stays k (omega arith));
            }
        | newest at is front ↦
            let f : IsReady T J k = subst (Fits T J) is fits in
            let here : k < accepted_count J = f.following in
            record {
              following = subst (λ w. k < accepted_count w) (sym front) f.following;
              once = ap (λ w. has_take w k) front ∙ f.once;
              in_turn = λ j l m.
                  ap (λ w. has_decision w j) front ∙ f.in_turn j l (sym (member_stays j (omega arith)) ∙ m ∙ member_stays k (omega arith));
            }
      ]

  decides_more : (i k : ℕ) (decision : Outcome) → At (J ++ event ∷ []) i (Decide k decision) → DecidesRight T (J ++ event ∷ []) i k decision
  decides_more i k decision h =
      elim (grown J event (Decide k decision) i h) [
        | earlier at front below ↦
            let old = S.decides i k decision at in
            record {
              following = ap (λ w. has_take w k) front ∙ old.following;
              once = ap (λ w. has_decision w k) front ∙ old.once;
              settled = IsSettled-append T J (event ∷ []) k decision old.settled;
            }
        | newest at is front ↦
            let f : IsNextDecision T J k decision = subst (Fits T J) is fits in
            record {
              following = ap (λ w. has_take w k) front ∙ f.following;
              once = ap (λ w. has_decision w k) front ∙ f.once;
              settled = IsSettled-append T J (event ∷ []) k decision f.settled;
            }
      ]

  pub sound_more : Sound T (J ++ event ∷ [])
  sound_more = record {
    in_order = in_order_more;
    within = within_more;
    ends = ends_more;
    closes = closes_more;
    takes = takes_more;
    decides = decides_more;
  }
