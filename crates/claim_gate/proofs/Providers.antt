-- After each event the progress of the files agrees with the journal, and it implies whether the close is due.
use Rattle.std.proofs.Common.{◌≡◌, ℕ, zero, suc, ◌<◌, ◌≤◌, ◌+◌, ◌-◌, ◌==◌, Bool, true, false, ◌&&◌, ◌||◌, cond, List, [], ◌∷◌, ◌++◌, take, length, get_or, set, slice_set, ◌⊎◌, refl, sym, ap, ◌∙◌, subst, inl, inr, arith, add-zero, add-one, eq-eqb, ne_eqb, length-set}
use Rattle.std.specs.List.{count_by, list_all, AllZip}
use Rattle.std.proofs.lemmas.Bool.{both_ways, cases_eq, cases_lt, cond-true, cond-false}
use Rattle.std.proofs.lemmas.List.{length_push, get_or_default, get_or_past, get_or-set_same, get_or-set_other, take_all}
use Rattle.std.proofs.lemmas.List.Folds.{list_all_more}
use Rattle.std.proofs.lemmas.List.Sums.{sum_by-cons, sum_by_push, sum_by-set}
use Rattle.claim_gate.specs.Terms.{TermsParts, AreClaimsOf, IsTermsOf}
use Rattle.journal.specs.Terms.{Terms, IsProvider}
use Rattle.journal.specs.Events.{accepted_count, place_in, places, is_end, has_end, reached, all_ended, due}
use Rattle.journal.specs.Gate.{is_any_end}
use Rattle.journal.specs.declared.event.Event.{Event}
use Rattle.journal.specs.declared.event.Event.TheVariants.{Accept, End}
use Rattle.claim_gate.specs.declared.intakes.Intake.{Intake}
use Rattle.claim_gate.specs.Intakes.{no_intake, intake_of, one_more, at_end, with_accept, with_end}
use Rattle.claim_gate.specs.GateIndex.{IsIntakeOf, AreIntakesOf, is_due}
use Rattle.claim_gate.proofs.Journals.{any_stays, any_now, places_more, places_stay}

-- the number of providers that have ended
abbrev ends_in : List Intake → ℕ
ends_in intakes = count_by (λ x. x.ended) intakes

ends_stay : (J : List Event) (event : Event) → is_any_end event ≡ false → count_by is_any_end (J ++ event ∷ []) ≡ count_by is_any_end J
ends_stay J event h =
    sum_by_push (λ e. cond (is_any_end e) 1 0) J event
    ∙ ap (λ b. count_by is_any_end J + cond b 1 0) h
    ∙ add-zero (count_by is_any_end J)

-- the progress of a provider agrees after an event that is no acceptance and no end of this provider
intake_stays : (J : List Event) (event : Event) (provider : ℕ) (intake : Intake) → place_in provider event ≡ [] → is_end provider event ≡ false
    → IsIntakeOf J provider intake → IsIntakeOf (J ++ event ∷ []) provider intake
intake_stays J event provider intake no_place no_end is = record {
  accepted_is = is.accepted_is ∙ sym (ap length (places_stay J event provider no_place));
  ended_is = is.ended_is ∙ sym (any_stays (is_end provider) J event no_end);
}

-- the progress of all providers agrees after an event that is no acceptance and no end
pub intakes_stay : (J : List Event) (providers : ℕ) (intakes : List Intake) (event : Event) → AreIntakesOf J providers intakes
    → ((p : ℕ) → place_in p event ≡ []) → ((p : ℕ) → is_end p event ≡ false) → is_any_end event ≡ false → AreIntakesOf (J ++ event ∷ []) providers intakes
intakes_stay J providers intakes event I no_place no_end no_ends = record {
  as_many = I.as_many;
  each = λ i below. intake_stays J event (suc i) (get_or intakes i no_intake) (no_place (suc i)) (no_end (suc i)) (I.each i below);
  ends = ends_stay J event no_ends ∙ I.ends;
}

-- another progress of a provider keeps the number of ended providers, if the provider has ended in both or in neither
ends-set : (intakes : List Intake) (i : ℕ) (intake d : Intake) → intake.ended ≡ (get_or intakes i d).ended → ends_in (set intakes i intake) ≡ ends_in intakes
ends-set [] i intake d same = refl
ends-set (x ∷ intakes) zero intake d same =
    sum_by-cons (λ y. cond y.ended 1 0) intake intakes
    ∙ ap (λ b. cond b 1 0 + ends_in intakes) same
    ∙ sym (sum_by-cons (λ y. cond y.ended 1 0) x intakes)
ends-set (x ∷ intakes) (suc i) intake d same =
    sum_by-cons (λ y. cond y.ended 1 0) x (set intakes i intake)
    ∙ ap (λ n. cond x.ended 1 0 + n) (ends-set intakes i intake d same)
    ∙ sym (sum_by-cons (λ y. cond y.ended 1 0) x intakes)

-- the acceptance of a provider's claim is not one of another provider's claim
no_place : (p q place : ℕ) → (p ≡ q → ⊥) → place_in q (Accept p place) ≡ []
no_place p q place other = cond-false (p == q) (place ∷ []) [] (ne_eqb p q other)

longer_places : (J : List Event) (p place : ℕ) → length (places (J ++ Accept p place ∷ []) p) ≡ length (places J p) + 1
longer_places J p place =
    ap length (places_more J (Accept p place) p ∙ ap (λ w. places J p ++ w) (cond-true (p == p) (place ∷ []) [] (eq-eqb p p refl)))
    ∙ length_push (places J p) place

-- a provider that has not ended is one of the run
open_within : (intakes : List Intake) (q : ℕ) → (get_or intakes q no_intake).ended ≡ false → q < length intakes
open_within intakes q yet =
    elim (cases_lt q (length intakes)) [
      | inl within ↦ within
      | inr past ↦ absurd (both_ways (get_or intakes q no_intake).ended yet (ap (λ (x : Intake). x.ended) (get_or_past intakes q no_intake past)))
    ]

-- a provider is not 0, and its progress has a place in the list
pub record HasPlace (intakes : List Intake) (provider : ℕ) : Type 0 where
  pub least : 1 ≤ provider
  pub within : provider - 1 < length intakes

pub open_has_place : (intakes : List Intake) (provider : ℕ) → (intake_of intakes provider).ended ≡ false → HasPlace intakes provider
open_has_place intakes zero yet = absurd (both_ways true yet refl)
open_has_place intakes (suc q) yet =
    let within = open_within intakes q yet in
    record { least = omega arith; within = omega (arith, within) }

-- the end of a provider that has not ended adds one to the number of ended providers
one_more_end : (intakes : List Intake) (provider : ℕ) → (intake_of intakes provider).ended ≡ false → ends_in (with_end intakes provider) ≡ ends_in intakes + 1
one_more_end intakes zero yet = absurd (both_ways true yet refl)
one_more_end intakes (suc q) yet =
    let within = open_within intakes q yet in
    let more : ends_in (set intakes q (at_end (get_or intakes q no_intake))) + cond (get_or intakes q no_intake).ended 1 0 ≡ ends_in intakes + 1 =
    sum_by-set (λ x. cond x.ended 1 0) intakes q (at_end (get_or intakes q no_intake)) no_intake within in
    let none : cond (get_or intakes q no_intake).ended 1 0 ≡ 0 = cond-false {A = ℕ} (get_or intakes q no_intake).ended 1 0 yet in
    sym (ap (λ n. ends_in (with_end intakes (suc q)) + n) none ∙ add-zero (ends_in (with_end intakes (suc q)))) ∙ more

-- the end of a provider, written in place of the progress that was read there
pub written_end : (intakes : List Intake) (provider : ℕ) (read : Intake) → (intake_of intakes provider).ended ≡ false → read ≡ get_or intakes (provider - 1) read
    → slice_set intakes (provider - 1) (at_end read) ≡ with_end intakes provider
written_end intakes zero read yet there = absurd (both_ways true yet refl)
written_end intakes (suc q) read yet there =
    let place : suc q - 1 ≡ q = omega arith in
    let within = open_within intakes q yet in
    let same : read ≡ get_or intakes q no_intake = subst (λ n. read ≡ get_or intakes n read) place there ∙ get_or_default intakes q read no_intake within in
    ap (λ n. slice_set intakes n (at_end read)) place ∙ ap (λ x. slice_set intakes q (at_end x)) same

-- the count of ended providers after it
pub counted_end : (intakes : List Intake) (provider : ℕ) (read : Intake) (count : ℕ) → (intake_of intakes provider).ended ≡ false → read ≡ get_or intakes (provider - 1) read
    → count ≡ ends_in intakes → count + 1 ≡ ends_in (slice_set intakes (provider - 1) (at_end read))
counted_end intakes provider read count yet there counted =
    ap (λ n. n + 1) counted ∙ sym (ap ends_in (written_end intakes provider read yet there) ∙ one_more_end intakes provider yet)

module _ (J : List Event) (providers : ℕ) (intakes : List Intake) (I : AreIntakesOf J providers intakes) where
  accept_each : (q place i : ℕ) → i < providers → (q ≡ i) ⊎ (q ≡ i → ⊥)
      → IsIntakeOf (J ++ Accept (suc q) place ∷ []) (suc i) (get_or (with_accept intakes (suc q)) i no_intake)
  accept_each q place i below (inl e) =
      let many : length intakes ≡ providers = I.as_many in
      let within : q < length intakes = omega arith in
      let old : IsIntakeOf J (suc q) (get_or intakes q no_intake) = I.each q (omega arith) in
      let is : IsIntakeOf (J ++ Accept (suc q) place ∷ []) (suc q) (one_more (get_or intakes q no_intake)) =
      record {
        accepted_is = ap (λ n. n + 1) old.accepted_is ∙ sym (longer_places J (suc q) place);
        ended_is = old.ended_is ∙ sym (any_stays (is_end (suc q)) J (Accept (suc q) place) refl);
      } in
      let here : get_or (with_accept intakes (suc q)) q no_intake ≡ one_more (get_or intakes q no_intake) =
      get_or-set_same intakes q (one_more (get_or intakes q no_intake)) no_intake within in
      subst (λ j. IsIntakeOf (J ++ Accept (suc q) place ∷ []) (suc j) (get_or (with_accept intakes (suc q)) j no_intake)) e
      (subst (IsIntakeOf (J ++ Accept (suc q) place ∷ []) (suc q)) (sym here) is)
  accept_each q place i below (inr other) =
      let elsewhere : get_or (with_accept intakes (suc q)) i no_intake ≡ get_or intakes i no_intake =
      get_or-set_other intakes q i (one_more (get_or intakes q no_intake)) no_intake (λ e. other (sym e)) in
      subst (IsIntakeOf (J ++ Accept (suc q) place ∷ []) (suc i)) (sym elsewhere)
      (intake_stays J (Accept (suc q) place) (suc i) (get_or intakes i no_intake)
      (no_place (suc q) (suc i) place (λ e. other (omega arith))) refl (I.each i below))

  end_each : (q i : ℕ) → q < length intakes → i < providers → (q ≡ i) ⊎ (q ≡ i → ⊥)
      → IsIntakeOf (J ++ End (suc q) ∷ []) (suc i) (get_or (with_end intakes (suc q)) i no_intake)
  end_each q i within below (inl e) =
      let many : length intakes ≡ providers = I.as_many in
      let old : IsIntakeOf J (suc q) (get_or intakes q no_intake) = I.each q (omega arith) in
      let is : IsIntakeOf (J ++ End (suc q) ∷ []) (suc q) (at_end (get_or intakes q no_intake)) =
      record {
        accepted_is = old.accepted_is ∙ sym (ap length (places_stay J (End (suc q)) (suc q) refl));
        ended_is = sym (any_now (is_end (suc q)) J (End (suc q)) (eq-eqb (suc q) (suc q) refl));
      } in
      let here : get_or (with_end intakes (suc q)) q no_intake ≡ at_end (get_or intakes q no_intake) =
      get_or-set_same intakes q (at_end (get_or intakes q no_intake)) no_intake within in
      subst (λ j. IsIntakeOf (J ++ End (suc q) ∷ []) (suc j) (get_or (with_end intakes (suc q)) j no_intake)) e
      (subst (IsIntakeOf (J ++ End (suc q) ∷ []) (suc q)) (sym here) is)
  end_each q i within below (inr other) =
      let elsewhere : get_or (with_end intakes (suc q)) i no_intake ≡ get_or intakes i no_intake =
      get_or-set_other intakes q i (at_end (get_or intakes q no_intake)) no_intake (λ e. other (sym e)) in
      subst (IsIntakeOf (J ++ End (suc q) ∷ []) (suc i)) (sym elsewhere)
      (intake_stays J (End (suc q)) (suc i) (get_or intakes i no_intake) refl
      (ne_eqb (suc q) (suc i) (λ e. other (omega arith))) (I.each i below))

  -- the progress agrees after a claim of a provider is accepted
  pub intakes_accept : (provider place : ℕ) → AreIntakesOf (J ++ Accept provider place ∷ []) providers (with_accept intakes provider)
  intakes_accept zero place = record {
    as_many = I.as_many;
    each = λ i below.
        intake_stays J (Accept zero place) (suc i) (get_or intakes i no_intake) (no_place zero (suc i) place (λ e. omega arith)) refl (I.each i below);
    ends = ends_stay J (Accept zero place) refl ∙ I.ends;
  }
  intakes_accept (suc q) place = record {
    as_many = length-set intakes q (one_more (get_or intakes q no_intake)) ∙ I.as_many;
    each = λ i below. accept_each q place i below (cases_eq q i);
    ends =
        ends_stay J (Accept (suc q) place) refl ∙ I.ends
        ∙ sym (ends-set intakes q (one_more (get_or intakes q no_intake)) no_intake refl);
  }

  -- the progress agrees after a provider ends
  pub intakes_end : (provider : ℕ) → (intake_of intakes provider).ended ≡ false → AreIntakesOf (J ++ End provider ∷ []) providers (with_end intakes provider)
  intakes_end zero yet = absurd (both_ways true yet refl)
  intakes_end (suc q) yet =
      let within = open_within intakes q yet in
      record {
        as_many = length-set intakes q (at_end (get_or intakes q no_intake)) ∙ I.as_many;
        each = λ i below. end_each q i within below (cases_eq q i);
        ends = sum_by_push (λ e. cond (is_any_end e) 1 0) J (End (suc q)) ∙ ap (λ n. n + 1) I.ends ∙ sym (one_more_end intakes (suc q) yet);
      }

  -- the progress of each provider of the run agrees with the journal
  pub intake_known : (provider : ℕ) → 1 ≤ provider → provider ≤ providers → IsIntakeOf J provider (intake_of intakes provider)
  intake_known zero least most = let never : ⊥ = omega arith in absurd never
  intake_known (suc q) least most = I.each q (omega arith)

  either_way : (a b : Bool) → (a && b) ≡ (b && a)
  either_way true true = refl
  either_way true false = refl
  either_way false true = refl
  either_way false false = refl

  ended_up_to : (n : ℕ) → n ≤ providers → all_ended n J ≡ list_all (λ x. x.ended) (take n intakes)
  ended_up_to zero within = refl
  ended_up_to (suc n) within =
      let many : length intakes ≡ providers = I.as_many in
      let here : n < length intakes = omega arith in
      either_way (has_end J (suc n)) (all_ended n J)
      ∙ ap (λ b. all_ended n J && b) (sym (I.each n (omega arith)).ended_is)
      ∙ ap (λ b. b && (get_or intakes n no_intake).ended) (ended_up_to n (omega arith))
      ∙ sym (list_all_more (λ x. x.ended) intakes n no_intake here)
      ∙ ap (λ m. list_all (λ x. x.ended) (take m intakes)) (add-one n)

  pub ended_all : all_ended providers J ≡ list_all (λ x. x.ended) intakes
  ended_all =
      let many : length intakes ≡ providers = I.as_many in
      ended_up_to providers (omega arith) ∙ ap (list_all (λ x. x.ended)) (take_all providers intakes (omega arith))

files_of : {A B : Type 0} (R : A → B → Type 0) (xs : List A) (ys : List B) → AllZip R xs ys → length ys ≡ length xs
files_of R [] [] h = refl
files_of R [] (y ∷ ys) h = absurd h
files_of R (x ∷ xs) [] h = absurd h
files_of R (x ∷ xs) (y ∷ ys) h = ap suc (files_of R xs ys h.1)

-- there is a list of claims for each text
pub as_many_files : (terms : TermsParts) (T : Terms) → IsTermsOf terms T → length T.files ≡ length terms.files
as_many_files terms T is = files_of (AreClaimsOf terms.plan.names) terms.files T.files is.files

-- the progress of each provider of the terms agrees with the journal
pub known_intake : (terms : TermsParts) (T : Terms) (J : List Event) (intakes : List Intake) (provider : ℕ) → IsTermsOf terms T
    → AreIntakesOf J (length terms.files) intakes → IsProvider T provider → IsIntakeOf J provider (intake_of intakes provider)
known_intake terms T J intakes provider is I known =
    let many : length T.files ≡ length terms.files = as_many_files terms T is in
    let most : provider ≤ length T.files = known.most in
    intake_known J (length terms.files) intakes I provider known.least (omega arith)

-- the close is due exactly where the progress and the number of accepted claims imply it
pub due_is : (terms : TermsParts) (T : Terms) (J : List Event) (intakes : List Intake) → IsTermsOf terms T
    → AreIntakesOf J (length terms.files) intakes → due T J ≡ is_due terms (accepted_count J) intakes
due_is terms T J intakes is I =
    ap (λ o. reached o (accepted_count J) || all_ended (length T.files) J) is.cutoff
    ∙ ap (λ n. reached terms.cutoff (accepted_count J) || all_ended n J) (as_many_files terms T is)
    ∙ ap (λ b. reached terms.cutoff (accepted_count J) || b) (ended_all J (length terms.files) intakes I)
