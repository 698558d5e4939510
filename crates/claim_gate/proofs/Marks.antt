-- After each event the phases of the entries agree with the journal.
use Rattle.std.proofs.Common.{◌≡◌, ℕ, zero, suc, ◌+◌, Bool, true, false, cond, List, [], ◌∷◌, ◌++◌, length, Option, Some, ◌⊎◌, refl, sym, ap, ◌∙◌, inl, inr, arith, eq-eqb, ne_eqb, add-zero, add-one}
use Rattle.std.specs.List.{count_by}
use Rattle.std.specs.Option.{option_map_or}
use Rattle.std.proofs.lemmas.Bool.{cases_eq}
use Rattle.std.proofs.lemmas.List.{length_push}
use Rattle.std.proofs.lemmas.List.Sums.{sum_by-cons, sum_by_push}
use Rattle.std.proofs.lemmas.Option.{none-some, same_Some}
use Rattle.settlement.specs.declared.acc.Acc.{Acc}
use Rattle.settlement.specs.declared.outcome.Outcome.{Outcome}
use Rattle.journal.specs.Places.{Place, is_of, is_decided, phase_at}
use Rattle.journal.specs.declared.phase.Phase.{Phase}
use Rattle.journal.specs.declared.phase.Phase.TheVariants.{Waiting, Ready, InWork, Decided}
use Rattle.journal.specs.Calls.{with_phase, ready_at, release_first, with_decision}
use Rattle.journal.specs.Events.{accept_in, accepted_count, is_take, has_take, is_decide, has_decision}
use Rattle.journal.specs.Gate.{is_any_decision}
use Rattle.journal.specs.declared.event.Event.{Event}
use Rattle.journal.specs.declared.event.Event.TheVariants.{Accept, Take, Decide}
use Rattle.claim_gate.specs.GateIndex.{is_begun, AreMarked}
use Rattle.claim_gate.proofs.Tallies.{count_by-yes, count_by-no}
use Rattle.claim_gate.proofs.Journals.{any_stays, any_now, accepted_more}

-- whether the phase at a position passes a test, which fails where there is no entry
abbrev tested : (Phase → Bool) → List Place → ℕ → Bool
tested test lanes k = option_map_or test (phase_at lanes k) false

-- the number of decided entries
abbrev decisions_in : List Place → ℕ
decisions_in lanes = count_by (λ place. is_decided place.phase) lanes

-- the test does not distinguish a waiting claim from a ready one
abbrev Ignores : (Phase → Bool) → Type 0
Ignores test = (phase : Phase) → test (ready_at phase) ≡ test phase

begun_ignores : Ignores is_begun
begun_ignores (Waiting claim) = refl
begun_ignores (Ready claim) = refl
begun_ignores InWork = refl
begun_ignores (Decided left) = refl

decided_ignores : Ignores is_decided
decided_ignores (Waiting claim) = refl
decided_ignores (Ready claim) = refl
decided_ignores InWork = refl
decided_ignores (Decided left) = refl

-- an added entry that fails the test changes the result at no position
tested_push : (test : Phase → Bool) (lanes : List Place) (place : Place) → test place.phase ≡ false
    → (k : ℕ) → tested test (lanes ++ place ∷ []) k ≡ tested test lanes k
tested_push test [] place h zero = h
tested_push test [] place h (suc k) = refl
tested_push test (x ∷ lanes) place h zero = refl
tested_push test (x ∷ lanes) place h (suc k) = tested_push test lanes place h k

-- another phase at one position keeps the number of entries
pub length-with_phase : (lanes : List Place) (k : ℕ) (phase : Phase) → length (with_phase lanes k phase) ≡ length lanes
length-with_phase [] k phase = refl
length-with_phase (x ∷ lanes) zero phase = refl
length-with_phase (x ∷ lanes) (suc k) phase = ap suc (length-with_phase lanes k phase)

phase_here : (lanes : List Place) (k : ℕ) (old phase : Phase) → phase_at lanes k ≡ Some old → phase_at (with_phase lanes k phase) k ≡ Some phase
phase_here [] k old phase h = absurd (none-some old h)
phase_here (x ∷ lanes) zero old phase h = refl
phase_here (x ∷ lanes) (suc k) old phase h = phase_here lanes k old phase h

phase_elsewhere : (lanes : List Place) (k j : ℕ) (phase : Phase) → (j ≡ k → ⊥) → phase_at (with_phase lanes k phase) j ≡ phase_at lanes j
phase_elsewhere [] k j phase other = refl
phase_elsewhere (x ∷ lanes) zero zero phase other = absurd (other refl)
phase_elsewhere (x ∷ lanes) zero (suc j) phase other = refl
phase_elsewhere (x ∷ lanes) (suc k) zero phase other = refl
phase_elsewhere (x ∷ lanes) (suc k) (suc j) phase other = phase_elsewhere lanes k j phase (λ e. other (ap suc e))

decisions-with_phase : (lanes : List Place) (k : ℕ) (old phase : Phase) → phase_at lanes k ≡ Some old → is_decided phase ≡ is_decided old
    → decisions_in (with_phase lanes k phase) ≡ decisions_in lanes
decisions-with_phase [] k old phase h same = refl
decisions-with_phase (x ∷ lanes) zero old phase h same =
    let one : is_decided phase ≡ is_decided x.phase = same ∙ sym (ap is_decided (same_Some x.phase old h)) in
    sum_by-cons (λ place. cond (is_decided place.phase) 1 0) (record x { phase = phase }) lanes
    ∙ ap (λ b. cond b 1 0 + decisions_in lanes) one
    ∙ sym (sum_by-cons (λ place. cond (is_decided place.phase) 1 0) x lanes)
decisions-with_phase (x ∷ lanes) (suc k) old phase h same =
    sum_by-cons (λ place. cond (is_decided place.phase) 1 0) x (with_phase lanes k phase)
    ∙ ap (λ n. cond (is_decided x.phase) 1 0 + n) (decisions-with_phase lanes k old phase h same)
    ∙ sym (sum_by-cons (λ place. cond (is_decided place.phase) 1 0) x lanes)

-- if the test holds, the first entry becomes ready; otherwise these others come after it
abbrev or_released : Bool → Place → List Place → List Place → List Place
or_released b x lanes rest = cond b (record x { phase = ready_at x.phase } ∷ lanes) (x ∷ rest)

tested_or : (test : Phase → Bool) → Ignores test → (b : Bool) (x : Place) (lanes rest : List Place)
    → ((k : ℕ) → tested test rest k ≡ tested test lanes k) → (k : ℕ) → tested test (or_released b x lanes rest) k ≡ tested test (x ∷ lanes) k
tested_or test ignores true x lanes rest h zero = ignores x.phase
tested_or test ignores true x lanes rest h (suc k) = refl
tested_or test ignores false x lanes rest h zero = refl
tested_or test ignores false x lanes rest h (suc k) = h k

tested_released : (test : Phase → Bool) → Ignores test → (member : List ℕ) (lanes : List Place)
    → (k : ℕ) → tested test (release_first member lanes) k ≡ tested test lanes k
tested_released test ignores member [] k = refl
tested_released test ignores member (x ∷ lanes) k =
    tested_or test ignores (is_of member x) x lanes (release_first member lanes) (tested_released test ignores member lanes) k

length_or : (b : Bool) (x : Place) (lanes rest : List Place) → length rest ≡ length lanes → length (or_released b x lanes rest) ≡ length (x ∷ lanes)
length_or true x lanes rest h = refl
length_or false x lanes rest h = ap suc h

length-released : (member : List ℕ) (lanes : List Place) → length (release_first member lanes) ≡ length lanes
length-released member [] = refl
length-released member (x ∷ lanes) = length_or (is_of member x) x lanes (release_first member lanes) (length-released member lanes)

decisions_or : (b : Bool) (x : Place) (lanes rest : List Place) → decisions_in rest ≡ decisions_in lanes → decisions_in (or_released b x lanes rest) ≡ decisions_in (x ∷ lanes)
decisions_or true x lanes rest h =
    sum_by-cons (λ place. cond (is_decided place.phase) 1 0) (record x { phase = ready_at x.phase }) lanes
    ∙ ap (λ b. cond b 1 0 + decisions_in lanes) (decided_ignores x.phase)
    ∙ sym (sum_by-cons (λ place. cond (is_decided place.phase) 1 0) x lanes)
decisions_or false x lanes rest h =
    sum_by-cons (λ place. cond (is_decided place.phase) 1 0) x rest
    ∙ ap (λ n. cond (is_decided x.phase) 1 0 + n) h
    ∙ sym (sum_by-cons (λ place. cond (is_decided place.phase) 1 0) x lanes)

decisions-released : (member : List ℕ) (lanes : List Place) → decisions_in (release_first member lanes) ≡ decisions_in lanes
decisions-released member [] = refl
decisions-released member (x ∷ lanes) = decisions_or (is_of member x) x lanes (release_first member lanes) (decisions-released member lanes)

-- a decision at one position keeps the number of entries
length-with_decision : (lanes : List Place) (k : ℕ) (left : Acc) → length (with_decision lanes k left) ≡ length lanes
length-with_decision [] k left = refl
length-with_decision (x ∷ lanes) zero left = ap suc (length-released x.account.family lanes)
length-with_decision (x ∷ lanes) (suc k) left = ap suc (length-with_decision lanes k left)

decision_here : (lanes : List Place) (k : ℕ) (old : Phase) (left : Acc) → phase_at lanes k ≡ Some old → phase_at (with_decision lanes k left) k ≡ Some (Decided left)
decision_here [] k old left h = absurd (none-some old h)
decision_here (x ∷ lanes) zero old left h = refl
decision_here (x ∷ lanes) (suc k) old left h = decision_here lanes k old left h

decision_elsewhere : (test : Phase → Bool) → Ignores test → (lanes : List Place) (k j : ℕ) (left : Acc) → (j ≡ k → ⊥)
    → tested test (with_decision lanes k left) j ≡ tested test lanes j
decision_elsewhere test ignores [] k j left other = refl
decision_elsewhere test ignores (x ∷ lanes) zero zero left other = absurd (other refl)
decision_elsewhere test ignores (x ∷ lanes) zero (suc j) left other = tested_released test ignores x.account.family lanes j
decision_elsewhere test ignores (x ∷ lanes) (suc k) zero left other = refl
decision_elsewhere test ignores (x ∷ lanes) (suc k) (suc j) left other = decision_elsewhere test ignores lanes k j left (λ e. other (ap suc e))

and_one_more : (n m : ℕ) → n + suc m ≡ suc (n + m)
and_one_more n m = omega arith

decisions-with_decision : (lanes : List Place) (k : ℕ) (left : Acc) → phase_at lanes k ≡ Some InWork → decisions_in (with_decision lanes k left) ≡ suc (decisions_in lanes)
decisions-with_decision [] k left h = absurd (none-some InWork h)
decisions-with_decision (x ∷ lanes) zero left h =
    let undecided : is_decided x.phase ≡ false = ap is_decided (same_Some x.phase InWork h) in
    count_by-yes (λ place. is_decided place.phase) (record x { phase = Decided left }) (release_first x.account.family lanes) refl
    ∙ ap suc (decisions-released x.account.family lanes)
    ∙ sym (ap suc (count_by-no (λ place. is_decided place.phase) x lanes undecided))
decisions-with_decision (x ∷ lanes) (suc k) left h =
    sum_by-cons (λ place. cond (is_decided place.phase) 1 0) x (with_decision lanes k left)
    ∙ ap (λ n. cond (is_decided x.phase) 1 0 + n) (decisions-with_decision lanes k left h)
    ∙ and_one_more (cond (is_decided x.phase) 1 0) (decisions_in lanes)
    ∙ ap suc (sym (sum_by-cons (λ place. cond (is_decided place.phase) 1 0) x lanes))

pub decisions_stay : (J : List Event) (event : Event) → is_any_decision event ≡ false → count_by is_any_decision (J ++ event ∷ []) ≡ count_by is_any_decision J
decisions_stay J event h =
    sum_by_push (λ e. cond (is_any_decision e) 1 0) J event
    ∙ ap (λ b. count_by is_any_decision J + cond b 1 0) h
    ∙ add-zero (count_by is_any_decision J)

-- the phases agree with the journal after an event that is no acceptance, no take and no decision
pub marked_stay : (J : List Event) (lanes : List Place) (event : Event) → AreMarked J lanes
    → accept_in event ≡ [] → ((k : ℕ) → is_take k event ≡ false) → ((k : ℕ) → is_decide k event ≡ false) → is_any_decision event ≡ false
    → AreMarked (J ++ event ∷ []) lanes
marked_stay J lanes event M no_accept no_take no_decide no_decision = record {
  as_many = M.as_many ∙ sym (accepted_more J event ∙ ap (λ w. accepted_count J + length w) no_accept ∙ add-zero (accepted_count J));
  taken_are = λ k. any_stays (is_take k) J event (no_take k) ∙ M.taken_are k;
  decided_are = λ k. any_stays (is_decide k) J event (no_decide k) ∙ M.decided_are k;
  decisions = decisions_stay J event no_decision ∙ M.decisions;
}

-- they agree after an acceptance, with the entry of a claim that is neither taken nor decided
pub marked_accept : (J : List Event) (lanes : List Place) (provider place : ℕ) (next : Place) → AreMarked J lanes
    → is_begun next.phase ≡ false → is_decided next.phase ≡ false → AreMarked (J ++ Accept provider place ∷ []) (lanes ++ next ∷ [])
marked_accept J lanes provider place next M not_begun undecided =
    let longer : length (lanes ++ next ∷ []) ≡ length lanes + 1 = length_push lanes next in
    let more : accepted_count (J ++ Accept provider place ∷ []) ≡ accepted_count J + 1 = accepted_more J (Accept provider place) in
    let same : length lanes ≡ accepted_count J = M.as_many in
    record {
      as_many = omega arith;
      taken_are = λ k. any_stays (is_take k) J (Accept provider place) refl ∙ M.taken_are k ∙ sym (tested_push is_begun lanes next not_begun k);
      decided_are = λ k. any_stays (is_decide k) J (Accept provider place) refl ∙ M.decided_are k ∙ sym (tested_push is_decided lanes next undecided k);
      decisions =
          decisions_stay J (Accept provider place) refl ∙ M.decisions
          ∙ sym (sum_by_push (λ p. cond (is_decided p.phase) 1 0) lanes next
          ∙ ap (λ b. decisions_in lanes + cond b 1 0) undecided
          ∙ add-zero (decisions_in lanes));
    }

-- whether an optional phase passes a test
abbrev said : (Phase → Bool) → Option Phase → Bool
said test phase = option_map_or test phase false

taken_now : (J : List Event) (lanes : List Place) (k : ℕ) (old : Phase) → AreMarked J lanes → phase_at lanes k ≡ Some old
    → (j : ℕ) → (k ≡ j) ⊎ (k ≡ j → ⊥) → has_take (J ++ Take k ∷ []) j ≡ tested is_begun (with_phase lanes k InWork) j
taken_now J lanes k old M there j (inl e) =
    any_now (is_take j) J (Take k) (eq-eqb k j e)
    ∙ sym (ap (tested is_begun (with_phase lanes k InWork)) (sym e) ∙ ap (said is_begun) (phase_here lanes k old InWork there))
taken_now J lanes k old M there j (inr other) =
    any_stays (is_take j) J (Take k) (ne_eqb k j other)
    ∙ M.taken_are j
    ∙ ap (said is_begun) (sym (phase_elsewhere lanes k j InWork (λ e. other (sym e))))

undecided_still : (lanes : List Place) (k : ℕ) (old : Phase) → phase_at lanes k ≡ Some old → is_decided old ≡ false
    → (j : ℕ) → (k ≡ j) ⊎ (k ≡ j → ⊥) → tested is_decided lanes j ≡ tested is_decided (with_phase lanes k InWork) j
undecided_still lanes k old there undecided j (inl e) =
    ap (tested is_decided lanes) (sym e)
    ∙ ap (said is_decided) there
    ∙ undecided
    ∙ sym (ap (tested is_decided (with_phase lanes k InWork)) (sym e) ∙ ap (said is_decided) (phase_here lanes k old InWork there))
undecided_still lanes k old there undecided j (inr other) =
    ap (said is_decided) (sym (phase_elsewhere lanes k j InWork (λ e. other (sym e))))

-- they agree after the take of a claim that is neither taken nor decided
pub marked_take : (J : List Event) (lanes : List Place) (k : ℕ) (old : Phase) → AreMarked J lanes
    → phase_at lanes k ≡ Some old → is_begun old ≡ false → is_decided old ≡ false → AreMarked (J ++ Take k ∷ []) (with_phase lanes k InWork)
marked_take J lanes k old M there not_begun undecided = record {
  as_many = length-with_phase lanes k InWork ∙ M.as_many ∙ sym (accepted_more J (Take k) ∙ add-zero (accepted_count J));
  taken_are = λ j. taken_now J lanes k old M there j (cases_eq k j);
  decided_are = λ j.
      any_stays (is_decide j) J (Take k) refl ∙ M.decided_are j ∙ undecided_still lanes k old there undecided j (cases_eq k j);
  decisions = decisions_stay J (Take k) refl ∙ M.decisions ∙ sym (decisions-with_phase lanes k old InWork there (sym undecided));
}

taken_still : (lanes : List Place) (k : ℕ) (left : Acc) → phase_at lanes k ≡ Some InWork
    → (j : ℕ) → (k ≡ j) ⊎ (k ≡ j → ⊥) → tested is_begun lanes j ≡ tested is_begun (with_decision lanes k left) j
taken_still lanes k left there j (inl e) =
    ap (tested is_begun lanes) (sym e)
    ∙ ap (said is_begun) there
    ∙ sym (ap (tested is_begun (with_decision lanes k left)) (sym e) ∙ ap (said is_begun) (decision_here lanes k InWork left there))
taken_still lanes k left there j (inr other) = sym (decision_elsewhere is_begun begun_ignores lanes k j left (λ e. other (sym e)))

decided_now : (J : List Event) (lanes : List Place) (k : ℕ) (outcome : Outcome) (left : Acc) → AreMarked J lanes → phase_at lanes k ≡ Some InWork
    → (j : ℕ) → (k ≡ j) ⊎ (k ≡ j → ⊥) → has_decision (J ++ Decide k outcome ∷ []) j ≡ tested is_decided (with_decision lanes k left) j
decided_now J lanes k outcome left M there j (inl e) =
    any_now (is_decide j) J (Decide k outcome) (eq-eqb k j e)
    ∙ sym (ap (tested is_decided (with_decision lanes k left)) (sym e) ∙ ap (said is_decided) (decision_here lanes k InWork left there))
decided_now J lanes k outcome left M there j (inr other) =
    any_stays (is_decide j) J (Decide k outcome) (ne_eqb k j other)
    ∙ M.decided_are j
    ∙ sym (decision_elsewhere is_decided decided_ignores lanes k j left (λ e. other (sym e)))

-- they agree after the decision of a claim in work
pub marked_decision : (J : List Event) (lanes : List Place) (k : ℕ) (outcome : Outcome) (left : Acc) → AreMarked J lanes
    → phase_at lanes k ≡ Some InWork → AreMarked (J ++ Decide k outcome ∷ []) (with_decision lanes k left)
marked_decision J lanes k outcome left M there = record {
  as_many = length-with_decision lanes k left ∙ M.as_many ∙ sym (accepted_more J (Decide k outcome) ∙ add-zero (accepted_count J));
  taken_are = λ j. any_stays (is_take j) J (Decide k outcome) refl ∙ M.taken_are j ∙ taken_still lanes k left there j (cases_eq k j);
  decided_are = λ j. decided_now J lanes k outcome left M there j (cases_eq k j);
  decisions =
      sum_by_push (λ e. cond (is_any_decision e) 1 0) J (Decide k outcome)
      ∙ add-one (count_by is_any_decision J)
      ∙ ap suc M.decisions
      ∙ sym (decisions-with_decision lanes k left there);
}
