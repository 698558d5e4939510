-- The claims that may be taken are the same by the entries and by the journal.
use Rattle.std.proofs.Common.{◌≡◌, ℕ, zero, suc, ◌<◌, ◌≤◌, Bool, true, false, not, ◌||◌, List, [], ◌∷◌, take, length, get_or, Option, Some, None, option_map, refl, sym, ap, ◌∙◌, subst, arith}
use Rattle.std.specs.List.{slice_get}
use Rattle.std.specs.Option.{option_map_or}
use Rattle.std.proofs.lemmas.Bool.{both_ways, or_left, or_right, not_from_false, not-false, not-true}
use Rattle.std.proofs.lemmas.List.{get_or-take, length-take-le}
use Rattle.std.proofs.lemmas.List.Recursion.{and_at, and_from_places}
use Rattle.std.proofs.lemmas.Option.{none-some, same_Some, slice_get-get_or, slice_get_within}
use Rattle.std.proofs.lemmas.Slice.Eq.{bytes_eq-Decides}
use Rattle.settlement.specs.Accounts.{Account, account_of, family_of}
use Rattle.settlement.specs.Opening.{opening}
use Rattle.settlement.specs.declared.acc.Acc.{Acc}
use Rattle.journal.specs.Places.{Place, is_of, is_waiting, is_ready, is_decided, all_decided, phase_at, present, started, InTurn}
use Rattle.journal.specs.declared.phase.Phase.{Phase}
use Rattle.journal.specs.declared.phase.Phase.TheVariants.{Waiting, Ready, InWork, Decided}
use Rattle.journal.specs.declared.ready_claim.ReadyClaim.{ReadyClaim}
use Rattle.journal.specs.Calls.{IsPicked, NothingReady, with_phase}
use Rattle.journal.specs.Terms.{Terms}
use Rattle.journal.specs.Events.{accepted_count, has_take, has_decision, lane_at, before}
use Rattle.journal.specs.Lawful.{IsReady}
use Rattle.journal.specs.Gate.{IsWork}
use Rattle.journal.specs.declared.event.Event.{Event}
use Rattle.claim_gate.specs.GateIndex.{is_begun, IsPhaseOf, ArePlacesOf, AreMarked}
use Rattle.claim_gate.proofs.Claims.{nowhere, other_of, comes_before}

-- another phase at a position changes no entry before the position
front_stays : (lanes : List Place) (k : ℕ) (phase : Phase) → take k (with_phase lanes k phase) ≡ take k lanes
front_stays [] zero phase = refl
front_stays [] (suc k) phase = refl
front_stays (x ∷ lanes) zero phase = refl
front_stays (x ∷ lanes) (suc k) phase = ap (λ w. x ∷ w) (front_stays lanes k phase)

place_here : (lanes : List Place) (k : ℕ) (phase : Phase) (place : Place) → slice_get lanes k ≡ Some place → slice_get (with_phase lanes k phase) k ≡ Some (record place { phase = phase })
place_here [] k phase place h = absurd (none-some place h)
place_here (x ∷ lanes) zero phase place h = ap (λ (p : Place). Some (record p { phase = phase })) (same_Some x place h)
place_here (x ∷ lanes) (suc k) phase place h = place_here lanes k phase place h

-- the entry at the position, which is in this phase
pub record HasPlace (lanes : List Place) (k : ℕ) (phase : Phase) : Type 0 where
  pub place : Place
  pub there : slice_get lanes k ≡ Some place
  pub phase_is : place.phase ≡ phase

has_place_by : (o : Option Place) (lanes : List Place) (k : ℕ) (phase : Phase) → slice_get lanes k ≡ o → option_map (λ p. p.phase) o ≡ Some phase → HasPlace lanes k phase
has_place_by None lanes k phase h is = absurd (none-some phase is)
has_place_by (Some place) lanes k phase h is = record { place = place; there = h; phase_is = same_Some place.phase phase is }

pub has_place : (lanes : List Place) (k : ℕ) (phase : Phase) → phase_at lanes k ≡ Some phase → HasPlace lanes k phase
has_place lanes k phase h = has_place_by (slice_get lanes k) lanes k phase refl h

module _ (T : Terms) (J : List Event) (lanes : List Place) (marked : AreMarked J lanes) (are : ArePlacesOf T J lanes) where
  -- the family of an entry is that of the claim at its position
  member_is : (k : ℕ) (place : Place) → slice_get lanes k ≡ Some place → lane_at T J k ≡ Some place.account.family
  member_is k place there =
      let is = are k place there in
      ap (option_map family_of) is.located ∙ ap (λ (a : Account). Some a.family) (sym is.account)

  -- the journal has a decision of a position exactly where the entry at the position is decided
  decided_is : (k : ℕ) (place : Place) → slice_get lanes k ≡ Some place → has_decision J k ≡ is_decided place.phase
  decided_is k place there = marked.decided_are k ∙ ap (λ o. option_map_or is_decided (option_map (λ p. p.phase) o) false) there

  taken_is : (k : ℕ) (place : Place) → slice_get lanes k ≡ Some place → has_take J k ≡ is_begun place.phase
  taken_is k place there = marked.taken_are k ∙ ap (λ o. option_map_or is_begun (option_map (λ p. p.phase) o) false) there

  -- if each earlier entry of a family is decided, so is each of its earlier claims
  turn_from_places : (member : List ℕ) (k : ℕ) → k ≤ length lanes → all_decided member (take k lanes) ≡ true
      → (j : ℕ) → j < k → lane_at T J j ≡ Some member → has_decision J j ≡ true
  turn_from_places member k within h j below its =
      let place : Place = get_or lanes j nowhere in
      let there : slice_get lanes j ≡ Some place = slice_get-get_or lanes j nowhere (omega arith) in
      let front : length (take k lanes) ≡ k = length-take-le k lanes within in
      let shorter : j < length (take k lanes) = omega arith in
      let same : get_or (take k lanes) j nowhere ≡ place = get_or-take k lanes j nowhere below in
      let test : (not (is_of member (get_or (take k lanes) j nowhere)) || is_decided (get_or (take k lanes) j nowhere).phase) ≡ true =
      and_at (all_decided member) (λ p. not (is_of member p) || is_decided p.phase) refl (λ x xs. refl) (take k lanes) j nowhere shorter h in
      let fits : (not (is_of member place) || is_decided place.phase) ≡ true = subst (λ p. (not (is_of member p) || is_decided p.phase) ≡ true) same test in
      let mine : is_of member place ≡ true = (bytes_eq-Decides place.account.family member).1 (same_Some place.account.family member (sym (member_is j place there) ∙ its)) in
      decided_is j place there ∙ other_of (is_of member place) (is_decided place.phase) fits mine

  place_in_turn : (member : List ℕ) (k : ℕ) → ((j : ℕ) → j < k → lane_at T J j ≡ Some member → has_decision J j ≡ true)
      → (j : ℕ) (place : Place) → j < k → slice_get lanes j ≡ Some place → (b : Bool) → is_of member place ≡ b
      → (not (is_of member place) || is_decided place.phase) ≡ true
  place_in_turn member k turn j place below there true mine =
      let same : place.account.family ≡ member = (bytes_eq-Decides place.account.family member).0 mine in
      or_right (not (is_of member place)) (is_decided place.phase)
      (sym (decided_is j place there) ∙ turn j below (member_is j place there ∙ ap Some same))
  place_in_turn member k turn j place below there false other =
      or_left (not (is_of member place)) (is_decided place.phase) (not_from_false (is_of member place) other)

  -- if each earlier claim of a family is decided, so is each of its earlier entries
  places_from_turn : (member : List ℕ) (k : ℕ) → k ≤ length lanes → ((j : ℕ) → j < k → lane_at T J j ≡ Some member → has_decision J j ≡ true)
      → all_decided member (take k lanes) ≡ true
  places_from_turn member k within turn =
      and_from_places (all_decided member) (λ p. not (is_of member p) || is_decided p.phase) refl (λ x xs. refl) (take k lanes) nowhere
      (λ j short.
      let front : length (take k lanes) ≡ k = length-take-le k lanes within in
      let below : j < k = omega arith in
      let same : get_or (take k lanes) j nowhere ≡ get_or lanes j nowhere = get_or-take k lanes j nowhere below in
      let there : slice_get lanes j ≡ Some (get_or lanes j nowhere) = slice_get-get_or lanes j nowhere (omega arith) in
      subst (λ p. (not (is_of member p) || is_decided p.phase) ≡ true) (sym same)
      (place_in_turn member k turn j (get_or lanes j nowhere) below there (is_of member (get_or lanes j nowhere)) refl))

  -- the claim that is picked is ready, and it is the job at its position
  pub ready_is_work : (stopped : Bool) (picked : ReadyClaim) (acc : Acc) → InTurn (with_phase lanes picked.position InWork) → IsPicked lanes picked
      → acc ≡ started (opening T.balances (account_of T.plan picked.claim)) picked.own picked.family_year
      → IsWork (record { terms = T; journal = J; stopped = stopped }) picked.position picked.claim acc
  ready_is_work stopped picked acc turns p at =
      let k = picked.position in
      let within : k < length lanes = slice_get_within lanes k p.place p.there in
      let many : length lanes ≡ accepted_count J = marked.as_many in
      let is = are k p.place p.there in
      let account = account_of T.plan picked.claim in
      let same : picked.claim ≡ is.claim = subst (IsPhaseOf is.claim (before T J (suc k) (account_of T.plan is.claim))) p.ready is.phase in
      let whose : p.place.account ≡ account = is.account ∙ ap (account_of T.plan) (sym same) in
      let calm : not (all_decided p.place.account.family (take k lanes)) ≡ false =
      ap (λ w. not (all_decided p.place.account.family w)) (sym (front_stays lanes k InWork))
      ∙ sym (turns.waits k (record p.place { phase = InWork }) (place_here lanes k InWork p.place p.there)) in
      let settled = not-false (all_decided p.place.account.family (take k lanes)) calm in
      record {
        ready = record {
          following = omega arith;
          once = taken_is k p.place p.there ∙ ap is_begun p.ready;
          in_turn = λ j below its.
              turn_from_places p.place.account.family k (omega arith) settled j below (its ∙ member_is k p.place p.there);
        };
        job = record {
          located = is.located ∙ ap Some (sym same);
          left =
              at
              ∙ p.located (opening T.balances account)
              ∙ ap (λ a. present a (opening T.balances account) (take k lanes)) whose
              ∙ comes_before T J lanes many are account k (omega arith) (ap (λ (a : Account). all_decided a.family (take k lanes)) (sym whose) ∙ settled);
        };
      }

  module _ (in_turn : InTurn lanes) where
    unready_by : (k : ℕ) (place : Place) (phase : Phase) → slice_get lanes k ≡ Some place → place.phase ≡ phase → is_ready phase ≡ false → IsReady T J k → ⊥
    unready_by k place (Waiting claim) there is unready r =
        let within : k < length lanes = slice_get_within lanes k place there in
        let waits : not (all_decided place.account.family (take k lanes)) ≡ true = sym (in_turn.waits k place there) ∙ ap is_waiting is in
        both_ways (all_decided place.account.family (take k lanes)) (not-true (all_decided place.account.family (take k lanes)) waits)
        (places_from_turn place.account.family k (omega arith) (λ j below its. r.in_turn j below (its ∙ sym (member_is k place there))))
    unready_by k place (Ready claim) there is unready r = both_ways true unready refl
    unready_by k place InWork there is unready r = both_ways (has_take J k) r.once (taken_is k place there ∙ ap is_begun is)
    unready_by k place (Decided left) there is unready r = both_ways (has_take J k) r.once (taken_is k place there ∙ ap is_begun is)

    -- if no entry is ready, no claim may be taken
    pub nothing_is_ready : NothingReady lanes → (k : ℕ) → ¬ IsReady T J k
    nothing_is_ready none k r =
        let many : length lanes ≡ accepted_count J = marked.as_many in
        let following : k < accepted_count J = r.following in
        let there : slice_get lanes k ≡ Some (get_or lanes k nowhere) = slice_get-get_or lanes k nowhere (omega arith) in
        unready_by k (get_or lanes k nowhere) (get_or lanes k nowhere).phase there refl (none k (get_or lanes k nowhere) there) r
