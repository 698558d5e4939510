-- The queues and their places after each call.
use Rattle.std.proofs.Common.{vec_len, ◌≡◌, ◌<◌, ◌+◌, ◌==◌, ℕ, zero, suc, true, false, cond, not, List, [], ◌∷◌, ◌++◌, length, map, get_or, take, Some, None, Option, Result, Ok, Err, IfOk, IfErr, OnOk, OnErr, is_err, option_map, refl, sym, ap, subst, ◌∙◌, inl, inr, arith, length-append}
use Rattle.std.specs.List.{slice_get, slice_set}
use Rattle.std.proofs.lemmas.List.{get_or_append_left, length-map, map-set, map_push}
use Rattle.std.proofs.lemmas.Option.{none-some, same_Some, get_or_from_slice_get, slice_get_within}
use Rattle.std.specs.Option.{IfSome, MatchOption}
use Rattle.std.specs.Str.{bytes_eq}
use Rattle.std.proofs.lemmas.Bool.{false≢true, not-false}
use Rattle.settlement.specs.Accounts.{account_in, family_of}
use Rattle.settlement.specs.declared.acc.Acc.{Acc}
use Rattle.settlement.specs.declared.claim.Claim.{Claim}
use Rattle.journal.specs.LastByKey.{AccumulatorKey, last_of_number, last_of_key, family_key, family_year_in, is_key}
use Rattle.journal.specs.Places.{Phase, Place, Decided, InWork, Ready, Waiting, all_decided, is_decided, is_of, is_ready, is_waiting, phase_at, started}
use Rattle.journal.specs.Calls.{IsInWork, IsPicked, phase_after, next_phase, next_place, ready_at, with_decision, with_phase}
use Rattle.journal.specs.Names.{AreDistinct, Grows}
use Rattle.journal.specs.FamilyQueues.{AddsSlot, AreAs, AreBacked, AreKept, AreKnown, AreLinked, AreQueued, DecidesSlot, FirstIsReady, IsEnd, IsFollowedBy, IsIdle, IsKeyOf, IsLast, IsNext, NextIsAnother, SlotAt, TakesFirst, LinksBack, houses_of, keys_of, lanes_of, nexts_of, owns_of, place_of, places_of, queued, slot_after}
use Rattle.journal.specs.declared.family_queues.FamilyQueues.{FamilyQueues}
use Rattle.journal.specs.declared.last_claim_index.LastClaimIndex.{LastClaimIndex}
use Rattle.journal.specs.declared.ready_claim.ReadyClaim.{ReadyClaim}
use Rattle.journal.specs.declared.slot.Slot.{Slot}
use Rattle.journal.proofs.BackLinks.{backed-more}
use Rattle.journal.proofs.Slots.{alike, held, key-at, lane-at, next-at, none-of, place-at, places-with, same-set, slot-in, slot-of}
use Rattle.journal.proofs.Linking.{get-set-other}
use Rattle.journal.proofs.Links.{get-push, linked-first, linked-follow}
use Rattle.journal.proofs.Neighbours.{decision-last, decision-next, phase-first, phase-next}
use Rattle.journal.proofs.Queue.{queue-add, queue-first, queue-pop, queue-push, queue-same}
use Rattle.journal.proofs.LastAccumulators.{located}
use Rattle.journal.proofs.ClaimOrder.{in_turn-add, in_turn-decide, in_turn-take}

-- equal links are right
linked-as : (lanes lanes2 : List ℕ) (nexts nexts2 : List (Option ℕ)) (end end2 : ℕ → Option ℕ) → lanes2 ≡ lanes → nexts2 ≡ nexts → ((l : ℕ) → end2 l ≡ end l)
    → AreLinked lanes nexts end → AreLinked lanes2 nexts2 end2
linked-as lanes lanes2 nexts nexts2 end end2 one two reported h =
    let here : AreLinked lanes nexts end2 = record { ended = λ l. subst (IsEnd lanes l) (sym (reported l)) (h.ended l); followed = h.followed } in
    subst (λ l. AreLinked l nexts2 end2) (sym one) (subst (λ n. AreLinked lanes n end2) (sym two) here)

-- equal links back are right
backed-as : (keys keys2 : List AccumulatorKey) (owns owns2 houses houses2 : List (Option ℕ)) (accounts accounts2 family_years households2 : AccumulatorKey → Option ℕ)
    → keys2 ≡ keys → owns2 ≡ owns → houses2 ≡ houses → ((q : AccumulatorKey) → accounts2 q ≡ accounts q) → ((q : AccumulatorKey) → households2 q ≡ family_years q)
    → AreBacked keys owns houses accounts family_years → AreBacked keys2 owns2 houses2 accounts2 households2
backed-as keys keys2 owns owns2 houses houses2 accounts accounts2 family_years households2 one two three reported reports h =
    let here : AreBacked keys owns houses accounts2 households2 = record {
      accounts_are = λ q. reported q ∙ h.accounts_are q;
      family_years_are = λ q. reports (family_key q) ∙ h.family_years_are q;
      own = h.own;
      family_year = h.family_year;
    } in
    subst (λ k. AreBacked k owns2 houses2 accounts2 households2) (sym one)
    (subst (λ o. AreBacked keys o houses2 accounts2 households2) (sym two) (subst (λ o. AreBacked keys owns o accounts2 households2) (sym three) here))

-- the invariant does not depend on reserved memory
pub kept-as : (names : List (List ℕ)) (old new : FamilyQueues) → AreKept names old → AreAs old new → AreKept names new
kept-as names old new h same = record {
  distinct = h.distinct;
  known = rw same.slots h.known;
  linked = linked-as _ _ _ _ (last_of_number old.ends) (last_of_number new.ends) (ap lanes_of same.slots) (ap nexts_of same.slots) same.ends h.linked;
  backed = backed-as _ _ _ _ _ _ (last_of_key old.lasts.accounts) (last_of_key new.lasts.accounts) (family_year_in old.lasts) (family_year_in new.lasts)
      (ap keys_of same.slots) (ap owns_of same.slots) (ap houses_of same.slots) same.accounts same.family_years h.backed;
  queued = rw (same.slots, same.ready) h.queued;
  in_turn = rw same.slots h.in_turn;
}

-- the places of slots do not change if names are added
places-more : (names more : List (List ℕ)) (slots : List Slot) → ((k : ℕ) (q : AccumulatorKey) → slice_get (keys_of slots) k ≡ Some q → q.family < length names)
    → ((k : ℕ) (q : AccumulatorKey) → slice_get (keys_of slots) k ≡ Some q → q.member < length names) → places_of (names ++ more) slots ≡ places_of names slots
places-more names more [] family member = refl
places-more names more (s ∷ ss) family member =
    let f : get_or (names ++ more) s.key.family [] ≡ get_or names s.key.family [] = get_or_append_left names more [] s.key.family (family 0 s.key refl) in
    let m : get_or (names ++ more) s.key.member [] ≡ get_or names s.key.member [] = get_or_append_left names more [] s.key.member (member 0 s.key refl) in
    let rest = places-more names more ss (λ k q there. family (suc k) q there) (λ k q there. member (suc k) q there) in
    λ i. record { account = record { family = f i; member = m i; year = s.key.year }; phase = s.phase } ∷ rest i

pub grown-places : (names new : List (List ℕ)) (queues : FamilyQueues) → AreKept names queues → Grows names new → places_of new queues.slots.items ≡ places_of names queues.slots.items
grown-places names new queues h grows =
    ap (λ n. places_of n queues.slots.items) grows.following ∙ places-more names grows.more queues.slots.items h.known.family h.known.member

pub grown-kept : (names new : List (List ℕ)) (queues : FamilyQueues) → AreKept names queues → Grows names new → AreDistinct new → AreKept new queues
grown-kept names new queues h grows distinct =
    let size : length new ≡ length names + length grows.more = ap length grows.following ∙ length-append names grows.more in
    let same = grown-places names new queues h grows in
    record {
      distinct = distinct;
      known = record {
        family = λ k q there. let within = h.known.family k q there in omega (arith, size, within);
        member = λ k q there. let within = h.known.member k q there in omega (arith, size, within);
      };
      linked = h.linked;
      backed = h.backed;
      queued = rw same h.queued;
      in_turn = rw same h.in_turn;
    }

-- the places after a claim is taken
pub taken-places : (names : List (List ℕ)) (old new : FamilyQueues) (picked : ReadyClaim) → TakesFirst old new picked
    → places_of names new.slots.items ≡ with_phase (places_of names old.slots.items) picked.position InWork
taken-places names old new picked t =
    ap (places_of names) t.slots ∙ places-with names old.slots.items picked.position t.slot InWork t.there

taken-phase : (names : List (List ℕ)) (old new : FamilyQueues) (picked : ReadyClaim) → TakesFirst old new picked
    → phase_at (places_of names old.slots.items) picked.position ≡ Some (Ready picked.claim)
taken-phase names old new picked t =
    ap (option_map (λ (p : Place). p.phase)) (place-at names old.slots.items picked.position t.slot t.there) ∙ ap Some t.phase

-- the taken claim and its accumulators
taken-picked : (names : List (List ℕ)) (old new : FamilyQueues) (picked : ReadyClaim) → AreKept names old → TakesFirst old new picked → IsPicked (places_of names old.slots.items) picked
taken-picked names old new picked h t =
    let slots = old.slots.items in
    let k = picked.position in
    let place = place_of names t.slot in
    let at = place-at names slots k t.slot t.there in
    let waits : false ≡ not (all_decided place.account.family (take k (places_of names slots))) = sym (ap is_waiting t.phase) ∙ h.in_turn.waits k place at in
    let settled = not-false (all_decided place.account.family (take k (places_of names slots))) (sym waits) in
    record {
      place = place;
      there = at;
      ready = t.phase;
      located = λ opening.
          (λ i. started opening (t.own i) (t.family_year i))
          ∙ located names slots (last_of_key old.lasts.accounts) (family_year_in old.lasts) k t.slot opening h.distinct h.known h.backed t.there settled;
    }

taken-kept : (names : List (List ℕ)) (old new : FamilyQueues) (picked : ReadyClaim) → AreKept names old → TakesFirst old new picked → AreKept names new
taken-kept names old new picked h t =
    let slots = old.slots.items in
    let places = places_of names slots in
    let k = picked.position in
    let after = record t.slot { phase = InWork } in
    let same = taken-places names old new picked t in
    let keys = ap keys_of t.slots ∙ same-set (λ (x : Slot). x.key) slots k t.slot after t.there refl in
    let lanes = ap lanes_of t.slots ∙ same-set (λ (x : Slot). x.key.family) slots k t.slot after t.there refl in
    let nexts = ap nexts_of t.slots ∙ same-set (λ (x : Slot). x.next) slots k t.slot after t.there refl in
    let owns = ap owns_of t.slots ∙ same-set (λ (x : Slot). x.own) slots k t.slot after t.there refl in
    let houses = ap houses_of t.slots ∙ same-set (λ (x : Slot). x.family_year) slots k t.slot after t.there refl in
    let at = place-at names slots k t.slot t.there in
    let queue = queue-pop places new.ready.items k (place_of names t.slot) InWork (rw t.queue at h.queued) at (ap is_ready t.phase) refl in
    record {
      distinct = h.distinct;
      known = rw keys h.known;
      linked = linked-as _ _ _ _ (last_of_number old.ends) (last_of_number new.ends) lanes nexts (λ l. ap (λ e. last_of_number e l) t.ends) h.linked;
      backed = backed-as _ _ _ _ _ _ (last_of_key old.lasts.accounts) (last_of_key new.lasts.accounts) (family_year_in old.lasts) (family_year_in new.lasts)
          keys owns houses (λ q. ap (λ (l : LastClaimIndex). last_of_key l.accounts q) t.lasts) (λ q. ap (λ l. family_year_in l q) t.lasts) h.backed;
      queued = rw same queue;
      in_turn = rw same (in_turn-take places k picked.claim h.in_turn (taken-phase names old new picked t));
    }

-- the first claim in the queue is ready
pub first-ready : (names : List (List ℕ)) (queues : FamilyQueues) → AreKept names queues → FirstIsReady queues
first-ready names queues h position rest queue =
    let (p, at, ready) = queue-first (places_of names queues.slots.items) rest position (rw queue at h.queued) in
    let (slot, there, is) = slot-of names queues.slots.items position p at in
    (slot, there, ap (λ (x : Place). is_ready x.phase) is ∙ ready)

-- the queues and the places after a call of `take`
pub take-kept : (names : List (List ℕ)) (old new : FamilyQueues) (r : Option ReadyClaim) → AreKept names old → MatchOption r (IsIdle old new) (TakesFirst old new)
    → AreKept names new
take-kept names old new None h idle = kept-as names old new h idle.same
take-kept names old new (Some picked) h t = taken-kept names old new picked h t

pub take-picked : (names : List (List ℕ)) (old new : FamilyQueues) (r : Option ReadyClaim) → AreKept names old → MatchOption r (IsIdle old new) (TakesFirst old new)
    → IfSome r (IsPicked (places_of names old.slots.items))
take-picked names old new None h t = tt
take-picked names old new (Some picked) h t = taken-picked names old new picked h t

pub take-places : (names : List (List ℕ)) (old new : FamilyQueues) (r : Option ReadyClaim) → MatchOption r (IsIdle old new) (TakesFirst old new)
    → IfSome r (λ picked. places_of names new.slots.items ≡ with_phase (places_of names old.slots.items) picked.position InWork)
take-places names old new None t = tt
take-places names old new (Some picked) t = taken-places names old new picked t

-- the next claim of the lane of a taken claim waits
next-waits : (names : List (List ℕ)) (queues : FamilyQueues) (position next : ℕ) (slot : Slot) → AreKept names queues → SlotAt queues position slot
    → slot.phase ≡ InWork → slot.next ≡ Some next
    → (after : Slot) × SlotAt queues next after × (is_waiting after.phase ≡ true) × ¬ (next ≡ position)
next-waits names queues position next slot h there work link =
    let slots = queues.slots.items in
    let places = places_of names slots in
    let follows : IsNext (lanes_of slots) slot.key.family position next =
    h.linked.followed position slot.key.family (Some next) (lane-at slots position slot there) (next-at slots position slot there ∙ ap Some link) in
    let (after, at, lane) = slot-in slots next slot.key.family follows.there in
    let m = get_or names after.key.family [] in
    let mine = alike names after.key.family slot.key.family (sym lane) in
    let undecided = held places position next (place_of names slot) m (place-at names slots position slot there) mine (ap is_decided work) follows.following in
    let waits = h.in_turn.waits next (place_of names after) (place-at names slots next after at) in
    let following = follows.following in
    (after, at, waits ∙ ap not undecided, λ same. omega (arith, same, following))

-- the places after a taken claim is decided: its own place and the next of its family change
decided-by : (names : List (List ℕ)) (old new : FamilyQueues) (position : ℕ) (left : Acc) (slot : Slot) (next : Option ℕ) → AreKept names old → SlotAt old position slot
    → slot.phase ≡ InWork → slot.next ≡ next → DecidesSlot old new position slot left next
    → places_of names new.slots.items ≡ with_decision (places_of names old.slots.items) position left
decided-by names old new position left slot None h there work link d =
    let slots = old.slots.items in
    let places = places_of names slots in
    let lane = slot.key.family in
    let in_lane = lane-at slots position slot there in
    let alone : (j : ℕ) (q : Place) → position < j → slice_get places j ≡ Some q → is_of (get_or names lane []) q ≡ false = λ j q following at.
    none-of names slots lane j q h.distinct h.known (h.known.family position slot.key (key-at slots position slot there))
    ((subst (IsFollowedBy (lanes_of slots) lane position) link (h.linked.followed position lane slot.next in_lane (next-at slots position slot there))) j following) at in
    ap (places_of names) d.0 ∙ places-with names slots position slot (Decided left) there
    ∙ sym (decision-last places position left (place_of names slot) (place-at names slots position slot there) alone)
decided-by names old new position left slot (Some next) h there work link d =
    let slots = old.slots.items in
    let places = places_of names slots in
    let lane = slot.key.family in
    let in_lane = lane-at slots position slot there in
    let follows : IsNext (lanes_of slots) lane position next =
    subst (IsFollowedBy (lanes_of slots) lane position) link (h.linked.followed position lane slot.next in_lane (next-at slots position slot there)) in
    let (after, at, waiting, apart) = next-waits names old position next slot h there work link in
    let same : after.key.family ≡ lane = same_Some after.key.family lane (sym (lane-at slots next after at) ∙ follows.there) in
    let decided = record slot { phase = Decided left } in
    let still = get-set-other slots position next decided apart ∙ at in
    let between : (j : ℕ) (q : Place) → position < j → j < next → slice_get places j ≡ Some q → is_of (get_or names lane []) q ≡ false = λ j q following front is.
    none-of names slots lane j q h.distinct h.known (h.known.family position slot.key (key-at slots position slot there)) (follows.first j following front) is in
    ap (places_of names) ((d after at).0)
    ∙ places-with names (slice_set slots position decided) next after (ready_at after.phase) still
    ∙ ap (λ xs. with_phase xs next (ready_at after.phase)) (places-with names slots position slot (Decided left) there)
    ∙ sym (decision-next places position next left (place_of names slot) (place_of names after) (place-at names slots position slot there)
    (place-at names slots next after at) follows.following (alike names lane after.key.family same) between)

pub decided-places : (names : List (List ℕ)) (old new : FamilyQueues) (position : ℕ) (left : Acc) (slot : Slot) → AreKept names old → SlotAt old position slot
    → slot.phase ≡ InWork → DecidesSlot old new position slot left slot.next
    → places_of names new.slots.items ≡ with_decision (places_of names old.slots.items) position left
decided-places names old new position left slot h there work d = decided-by names old new position left slot slot.next h there work refl d

-- a waiting claim is not ready until it is released
waiting-ready : (phase : Phase) → is_waiting phase ≡ true → is_ready phase ≡ false
waiting-ready (Waiting claim) h = refl
waiting-ready (Ready claim) h = absurd (false≢true h)
waiting-ready InWork h = refl
waiting-ready (Decided left) h = refl

released-ready : (phase : Phase) → is_waiting phase ≡ true → is_ready (ready_at phase) ≡ true
released-ready (Waiting claim) h = refl
released-ready (Ready claim) h = absurd (false≢true h)
released-ready InWork h = absurd (false≢true h)
released-ready (Decided left) h = absurd (false≢true h)

decided-queued : (names : List (List ℕ)) (old new : FamilyQueues) (position : ℕ) (left : Acc) (slot : Slot) (next : Option ℕ) → AreKept names old → SlotAt old position slot
    → slot.phase ≡ InWork → slot.next ≡ next → DecidesSlot old new position slot left next → AreQueued (places_of names new.slots.items) new.ready.items
decided-queued names old new position left slot None h there work link d =
    let slots = old.slots.items in
    let at = place-at names slots position slot there in
    let same = ap (places_of names) d.0 ∙ places-with names slots position slot (Decided left) there in
    rw (same, d.1) (queue-same (places_of names slots) old.ready.items position (place_of names slot) (Decided left) h.queued at (ap is_ready work) refl)
decided-queued names old new position left slot (Some next) h there work link d =
    let slots = old.slots.items in
    let at = place-at names slots position slot there in
    let (after, next_at, waiting, apart) = next-waits names old position next slot h there work link in
    let decided = record slot { phase = Decided left } in
    let mid = slice_set slots position decided in
    let still = get-set-other slots position next decided apart ∙ next_at in
    let first = places-with names slots position slot (Decided left) there in
    let second = ap (places_of names) ((d after next_at).0) ∙ places-with names mid next after (ready_at after.phase) still in
    let queued : AreQueued (places_of names mid) old.ready.items =
    rw first (queue-same (places_of names slots) old.ready.items position (place_of names slot) (Decided left) h.queued at (ap is_ready work) refl) in
    rw (second, (d after next_at).1) (
    queue-push (places_of names mid) old.ready.items next (place_of names after) (ready_at after.phase) queued (place-at names mid next after still)
    (waiting-ready after.phase waiting) (released-ready after.phase waiting)
    )

-- a decision changes only the phases of slots
decided-same : {X : Type 0} (f : Slot → X) → ((slot : Slot) (phase : Phase) → f (record slot { phase = phase }) ≡ f slot) → (names : List (List ℕ)) (old new : FamilyQueues)
    (position : ℕ) (left : Acc) (slot : Slot) (next : Option ℕ) → AreKept names old → SlotAt old position slot → slot.phase ≡ InWork → slot.next ≡ next
    → DecidesSlot old new position slot left next → map f new.slots.items ≡ map f old.slots.items
decided-same f same names old new position left slot None h there work link d =
    ap (map f) d.0 ∙ same-set f old.slots.items position slot (record slot { phase = Decided left }) there (same slot (Decided left))
decided-same f same names old new position left slot (Some next) h there work link d =
    let slots = old.slots.items in
    let (after, next_at, waiting, apart) = next-waits names old position next slot h there work link in
    let decided = record slot { phase = Decided left } in
    let mid = slice_set slots position decided in
    let still = get-set-other slots position next decided apart ∙ next_at in
    let phase = ready_at after.phase in
    ap (map f) ((d after next_at).0) ∙ same-set f mid next after (record after { phase = phase }) still (same after phase)
    ∙ same-set f slots position slot decided there (same slot (Decided left))

-- the indices of last positions do not change
pub record StaysFound (old new : FamilyQueues) : Type 0 where
  pub ends : new.ends ≡ old.ends
  pub lasts : new.lasts ≡ old.lasts

decided-kept : (names : List (List ℕ)) (old new : FamilyQueues) (position : ℕ) (left : Acc) (slot : Slot) → AreKept names old → SlotAt old position slot
    → slot.phase ≡ InWork → StaysFound old new → DecidesSlot old new position slot left slot.next → AreKept names new
decided-kept names old new position left slot h there work found d =
    let slots = old.slots.items in
    let places = places_of names slots in
    let same = decided-places names old new position left slot h there work d in
    let keys = decided-same (λ (x : Slot). x.key) (λ s p. refl) names old new position left slot slot.next h there work refl d in
    let lanes = decided-same (λ (x : Slot). x.key.family) (λ s p. refl) names old new position left slot slot.next h there work refl d in
    let nexts = decided-same (λ (x : Slot). x.next) (λ s p. refl) names old new position left slot slot.next h there work refl d in
    let owns = decided-same (λ (x : Slot). x.own) (λ s p. refl) names old new position left slot slot.next h there work refl d in
    let houses = decided-same (λ (x : Slot). x.family_year) (λ s p. refl) names old new position left slot slot.next h there work refl d in
    let in_work = ap (option_map (λ (p : Place). p.phase)) (place-at names slots position slot there) ∙ ap Some work in
    record {
      distinct = h.distinct;
      known = rw keys h.known;
      linked = linked-as _ _ _ _ (last_of_number old.ends) (last_of_number new.ends) lanes nexts (λ l. ap (λ e. last_of_number e l) found.ends) h.linked;
      backed = backed-as _ _ _ _ _ _ (last_of_key old.lasts.accounts) (last_of_key new.lasts.accounts) (family_year_in old.lasts) (family_year_in new.lasts)
          keys owns houses (λ q. ap (λ (l : LastClaimIndex). last_of_key l.accounts q) found.lasts) (λ q. ap (λ l. family_year_in l q) found.lasts) h.backed;
      queued = decided-queued names old new position left slot slot.next h there work refl d;
      in_turn = rw same (in_turn-decide places position left h.in_turn in_work);
    }

-- the queues after a claim of an account is added
pub record Adds (names : List (List ℕ)) (old new : FamilyQueues) (key : AccumulatorKey) (claim : Claim) (year : ℕ) : Type 0 where
  pub kept : AreKept names old
  pub key_is : IsKeyOf names key (account_in year claim)
  pub slots : AddsSlot old new key claim (last_of_number old.ends key.family)
  pub back : LinksBack old new key (vec_len old.slots)

-- the slot of the claim is appended; the earlier slots are the same except for the link of the last
-- slot of its lane
record IsAfter (names : List (List ℕ)) (old new : FamilyQueues) (key : AccumulatorKey) (claim : Claim) (front : List Slot) (phase : Phase) : Type 0 where
  pub slots : new.slots.items ≡ front ++ slot_after old key phase ∷ []
  pub keys : keys_of front ≡ keys_of old.slots.items
  pub lanes : lanes_of front ≡ lanes_of old.slots.items
  pub owns : owns_of front ≡ owns_of old.slots.items
  pub houses : houses_of front ≡ houses_of old.slots.items
  pub places : places_of names front ≡ places_of names old.slots.items
  pub ready : new.ready.items ≡ queued old.ready.items (length old.slots.items) phase
  pub phase_is : next_phase (places_of names old.slots.items) claim ≡ phase
  pub linked : AreLinked (lanes_of old.slots.items ++ key.family ∷ []) (nexts_of front ++ None ∷ []) (last_of_number new.ends)

known-more : (count : ℕ) (keys : List AccumulatorKey) (key : AccumulatorKey) → AreKnown count keys → key.family < count → key.member < count → AreKnown count (keys ++ key ∷ [])
known-more count keys key h f m = record {
  family = λ k q there. elim (get-push keys key q k there) [ inl before ↦ h.family k q before | inr last ↦ subst (λ (x : AccumulatorKey). x.family < count) last.1 f ];
  member = λ k q there. elim (get-push keys key q k there) [ inl before ↦ h.member k q before | inr last ↦ subst (λ (x : AccumulatorKey). x.member < count) last.1 m ];
}

module _ (names : List (List ℕ)) (old new : FamilyQueues) (key : AccumulatorKey) (claim : Claim) (year : ℕ) (a : Adds names old new key claim year) where
  abbrev pub slots : List Slot
  slots = old.slots.items

  many : vec_len old.slots ≡ length slots
  many = old.slots.ok.0

  family-is : get_or names key.family [] ≡ family_of claim
  family-is = get_or_from_slice_get names key.family (family_of claim) [] a.key_is.family

  family-within : key.family < length names
  family-within = slice_get_within names key.family (family_of claim) a.key_is.family

  ends-reported : (l : ℕ) → last_of_number new.ends l ≡ cond (key.family == l) (Some (length (lanes_of slots))) (last_of_number old.ends l)
  ends-reported l = a.back.ends l ∙ ap (λ n. cond (key.family == l) (Some n) (last_of_number old.ends l)) (many ∙ sym (length-map slots (λ (x : Slot). x.key.family)))

  nexts-many : length (nexts_of slots) ≡ length (lanes_of slots)
  nexts-many = length-map slots (λ (x : Slot). x.next) ∙ sym (length-map slots (λ (x : Slot). x.key.family))

  -- the case of the first claim of a lane
  first-following : last_of_number old.ends key.family ≡ None → AddsSlot old new key claim None → IsAfter names old new key claim slots (Ready claim)
  first-following none added =
      let empty : (k : ℕ) → ¬ (slice_get (lanes_of slots) k ≡ Some key.family) = subst (IsEnd (lanes_of slots) key.family) none (a.kept.linked.ended key.family) in
      record {
        slots = added.0;
        keys = refl;
        lanes = refl;
        owns = refl;
        houses = refl;
        places = refl;
        ready = added.1 ∙ ap (λ n. queued old.ready.items n (Ready claim)) many;
        phase_is = phase-first (places_of names slots) claim (λ k p there.
            ap (λ m. is_of m p) (sym family-is) ∙ none-of names slots key.family k p a.kept.distinct a.kept.known family-within (empty k) there);
        linked = linked-first (lanes_of slots) (nexts_of slots) (last_of_number old.ends) (last_of_number new.ends) key.family a.kept.linked nexts-many none ends-reported;
      }

  -- the case of a claim after the last one of its lane
  next-following : (last : ℕ) (before : Slot) → last_of_number old.ends key.family ≡ Some last → slice_get slots last ≡ Some before → before.key.family ≡ key.family
      → AddsSlot old new key claim (Some last)
      → IsAfter names old new key claim (slice_set slots last (record before { next = Some (length slots) })) (phase_after before.phase claim)
  next-following last before is at same added =
      let linked = record before { next = Some (length slots) } in
      let is_last : IsLast (lanes_of slots) key.family last = subst (IsEnd (lanes_of slots) key.family) is (a.kept.linked.ended key.family) in
      let nexts : nexts_of (slice_set slots last linked) ≡ slice_set (nexts_of slots) last (Some (length (lanes_of slots))) =
      map-set (λ (x : Slot). x.next) slots last linked ∙ ap (λ n. slice_set (nexts_of slots) last (Some n)) (sym (length-map slots (λ (x : Slot). x.key.family))) in
      let reported = added before at in
      let mine : is_of (family_of claim) (place_of names before) ≡ true =
      ap (λ m. bytes_eq (get_or names before.key.family []) m) (sym family-is) ∙ alike names key.family before.key.family same in
      record {
        slots = reported.0 ∙ ap (λ n. slice_set slots last (record before { next = Some n }) ++ slot_after old key (phase_after before.phase claim) ∷ []) many;
        keys = same-set (λ (x : Slot). x.key) slots last before linked at refl;
        lanes = same-set (λ (x : Slot). x.key.family) slots last before linked at refl;
        owns = same-set (λ (x : Slot). x.own) slots last before linked at refl;
        houses = same-set (λ (x : Slot). x.family_year) slots last before linked at refl;
        places = same-set (place_of names) slots last before linked at refl;
        ready = reported.1 ∙ ap (λ n. queued old.ready.items n (phase_after before.phase claim)) many;
        phase_is = phase-next (places_of names slots) last (place_of names before) claim a.kept.in_turn (place-at names slots last before at) mine
            (λ j q following there. ap (λ m. is_of m q) (sym family-is) ∙ none-of names slots key.family j q a.kept.distinct a.kept.known family-within (is_last.last j following) there);
        linked = rw nexts (linked-follow (lanes_of slots) (nexts_of slots) (last_of_number old.ends) (last_of_number new.ends) key.family last a.kept.linked nexts-many is ends-reported);
      }

  -- both cases
  following-by : (e : Option ℕ) → last_of_number old.ends key.family ≡ e → AddsSlot old new key claim e
      → (front : List Slot) × (phase : Phase) × IsAfter names old new key claim front phase
  following-by None is added = (slots, Ready claim, first-following is added)
  following-by (Some last) is added =
      let is_last : IsLast (lanes_of slots) key.family last = subst (IsEnd (lanes_of slots) key.family) is (a.kept.linked.ended key.family) in
      let (before, at, same) = slot-in slots last key.family is_last.there in
      (slice_set slots last (record before { next = Some (length slots) }), phase_after before.phase claim, next-following last before is at same added)

  module _ (front : List Slot) (phase : Phase) (b : IsAfter names old new key claim front phase) where
    abbrev slot : Slot
    slot = slot_after old key phase

    following-place : place_of names slot ≡ next_place (places_of names slots) claim year
    following-place =
        let member = get_or_from_slice_get names key.member claim.member [] a.key_is.member in
        λ i. record { account = record { family = family-is i; member = member i; year = a.key_is.year i }; phase = sym b.phase_is i }

    following-places : places_of names new.slots.items ≡ places_of names slots ++ next_place (places_of names slots) claim year ∷ []
    following-places =
        ap (places_of names) b.slots ∙ map_push (place_of names) front slot ∙ ap (λ xs. xs ++ place_of names slot ∷ []) b.places
        ∙ ap (λ p. places_of names slots ++ p ∷ []) following-place

    following-kept : AreKept names new
    following-kept =
        let places = places_of names slots in
        let keys : keys_of new.slots.items ≡ keys_of slots ++ key ∷ [] =
        ap keys_of b.slots ∙ map_push (λ (x : Slot). x.key) front slot ∙ ap (λ xs. xs ++ key ∷ []) b.keys in
        let lanes : lanes_of new.slots.items ≡ lanes_of slots ++ key.family ∷ [] =
        ap lanes_of b.slots ∙ map_push (λ (x : Slot). x.key.family) front slot ∙ ap (λ xs. xs ++ key.family ∷ []) b.lanes in
        let nexts : nexts_of new.slots.items ≡ nexts_of front ++ None ∷ [] = ap nexts_of b.slots ∙ map_push (λ (x : Slot). x.next) front slot in
        let owns : owns_of new.slots.items ≡ owns_of slots ++ last_of_key old.lasts.accounts key ∷ [] =
        ap owns_of b.slots ∙ map_push (λ (x : Slot). x.own) front slot ∙ ap (λ xs. xs ++ last_of_key old.lasts.accounts key ∷ []) b.owns in
        let houses : houses_of new.slots.items ≡ houses_of slots ++ family_year_in old.lasts (family_key key) ∷ [] =
        ap houses_of b.slots ∙ map_push (λ (x : Slot). x.family_year) front slot ∙ ap (λ xs. xs ++ family_year_in old.lasts (family_key key) ∷ []) b.houses in
        let size = many ∙ sym (length-map slots (λ (x : Slot). x.key)) in
        let backed = backed-more (keys_of slots) (owns_of slots) (houses_of slots) (last_of_key old.lasts.accounts) (family_year_in old.lasts) (last_of_key new.lasts.accounts) (family_year_in new.lasts) key
        a.kept.backed (length-map slots (λ (x : Slot). x.own) ∙ sym (length-map slots (λ (x : Slot). x.key)))
        (length-map slots (λ (x : Slot). x.family_year) ∙ sym (length-map slots (λ (x : Slot). x.key)))
        (λ q. a.back.accounts q ∙ ap (λ n. cond (is_key key q) (Some n) (last_of_key old.lasts.accounts q)) size)
        (λ q. a.back.family_years q ∙ ap (λ n. cond (is_key (family_key key) (family_key q)) (Some n) (family_year_in old.lasts (family_key q))) size) in
        let queue = queue-add places old.ready.items (place_of names slot) (length slots) (sym (length-map slots (place_of names))) a.kept.queued in
        record {
          distinct = a.kept.distinct;
          known = rw keys (known-more (length names) (keys_of slots) key a.kept.known family-within (slice_get_within names key.member claim.member a.key_is.member));
          linked = linked-as _ _ _ _ (last_of_number new.ends) (last_of_number new.ends) lanes nexts (λ l. refl) b.linked;
          backed = backed-as _ _ _ _ _ _ (last_of_key new.lasts.accounts) (last_of_key new.lasts.accounts) (family_year_in new.lasts) (family_year_in new.lasts)
              keys owns houses (λ q. refl) (λ q. refl) backed;
          queued = rw (following-places, b.ready, ← following-place) queue;
          in_turn = rw following-places (in_turn-add places claim year a.kept.in_turn);
        }

  pub added-kept : AreKept names new
  added-kept = let (front, phase, b) = following-by (last_of_number old.ends key.family) refl a.slots in following-kept front phase b

  pub added-places : places_of names new.slots.items ≡ places_of names slots ++ next_place (places_of names slots) claim year ∷ []
  added-places = let (front, phase, b) = following-by (last_of_number old.ends key.family) refl a.slots in following-places front phase b

-- the slot of a taken claim
work-at : (names : List (List ℕ)) (slots : List Slot) (position : ℕ) → IsInWork (places_of names slots) position
    → (slot : Slot) × (slice_get slots position ≡ Some slot) × (slot.phase ≡ InWork)
work-at names [] position work = absurd (none-some InWork work)
work-at names (s ∷ ss) zero work = (s, refl, same_Some s.phase InWork work)
work-at names (s ∷ ss) (suc position) work = work-at names ss position work

pub work-next : (names : List (List ℕ)) (queues : FamilyQueues) (position : ℕ) → AreKept names queues → IsInWork (places_of names queues.slots.items) position
    → NextIsAnother queues position
work-next names queues position h work slot next there link =
    let (found, at, phase) = work-at names queues.slots.items position work in
    let same : found ≡ slot = same_Some found slot (sym at ∙ there) in
    let (after, following, _, apart) = next-waits names queues position next slot h there (ap (λ (x : Slot). x.phase) (sym same) ∙ phase) link in
    (after, following, apart)

-- the queues and the places after a call of `decide`
pub decide-kept : {T E : Type 0} (names : List (List ℕ)) (old new : FamilyQueues) (position : ℕ) (left : Acc) (r : Result T E) → AreKept names old
    → IsInWork (places_of names old.slots.items) position
    → OnOk r ((slot : Slot) → SlotAt old position slot → DecidesSlot old new position slot left slot.next) → StaysFound old new
    → OnErr r (AreAs old new) → AreKept names new
decide-kept names old new position left (Ok x) h work decided found refused =
    let (slot, at, phase) = work-at names old.slots.items position work in
    decided-kept names old new position left slot h at phase found (decided slot at)
decide-kept names old new position left (Err e) h work decided found refused = kept-as names old new h refused

pub decide-places : {T E : Type 0} (names : List (List ℕ)) (old new : FamilyQueues) (position : ℕ) (left : Acc) (r : Result T E) → AreKept names old
    → IsInWork (places_of names old.slots.items) position
    → OnOk r ((slot : Slot) → SlotAt old position slot → DecidesSlot old new position slot left slot.next)
    → IfOk r (λ _. places_of names new.slots.items ≡ with_decision (places_of names old.slots.items) position left)
decide-places names old new position left (Ok x) h work decided =
    let (slot, at, phase) = work-at names old.slots.items position work in
    decided-places names old new position left slot h at phase (decided slot at)
decide-places names old new position left (Err e) h work decided = tt

-- the last slot of each lane exists
pub end-within : (names : List (List ℕ)) (queues : FamilyQueues) (lane last : ℕ) → AreKept names queues → last_of_number queues.ends lane ≡ Some last → last < vec_len queues.slots
end-within names queues lane last h is =
    let slots = queues.slots in
    let is_last : IsLast (lanes_of slots.items) lane last = subst (IsEnd (lanes_of slots.items) lane) is (h.linked.ended lane) in
    let within = slice_get_within (lanes_of slots.items) last lane is_last.there in
    omega (arith, within, length-map slots.items (λ (x : Slot). x.key.family), slots.ok.0)

-- the postcondition of a call that did not fail
pub ok-holds : {T E : Type 0} (r : Result T E) (P : Type 0) → is_err r ≡ false → OnOk r P → P
ok-holds (Ok x) P fine h = h
ok-holds (Err e) P fine h = absurd (false≢true (sym fine))

-- the queues with new names and reserved memory for a claim that is not added
pub prepared-kept : (names more : List (List ℕ)) (old new : FamilyQueues) → AreKept names old → Grows names more → AreDistinct more → AreAs old new → AreKept more new
prepared-kept names more old new h grows distinct same = kept-as more old new (grown-kept names more old h grows distinct) same

pub prepared-places : (names more : List (List ℕ)) (old new : FamilyQueues) → AreKept names old → Grows names more → AreAs old new
    → places_of more new.slots.items ≡ places_of names old.slots.items
prepared-places names more old new h grows same = ap (places_of more) same.slots ∙ grown-places names more old h grows

-- the queues and the places after a call of `add`
pub add-kept : {T E : Type 0} (names : List (List ℕ)) (old new : FamilyQueues) (key : AccumulatorKey) (claim : Claim) (year : ℕ) (r : Result T E) → AreKept names old
    → IsKeyOf names key (account_in year claim) → OnOk r (AddsSlot old new key claim (last_of_number old.ends key.family)) → OnOk r (LinksBack old new key (vec_len old.slots))
    → OnErr r (AreAs old new) → AreKept names new
add-kept names old new key claim year (Ok x) h is added back refused = added-kept names old new key claim year (record { kept = h; key_is = is; slots = added; back = back })
add-kept names old new key claim year (Err e) h is added back refused = kept-as names old new h refused

pub add-places : {T E : Type 0} (names : List (List ℕ)) (old new : FamilyQueues) (key : AccumulatorKey) (claim : Claim) (year : ℕ) (r : Result T E) (places : List Place) → AreKept names old
    → places_of names old.slots.items ≡ places → IsKeyOf names key (account_in year claim) → OnOk r (AddsSlot old new key claim (last_of_number old.ends key.family))
    → OnOk r (LinksBack old new key (vec_len old.slots)) → IfOk r (λ _. places_of names new.slots.items ≡ places ++ next_place places claim year ∷ [])
add-places names old new key claim year (Ok x) places h before is added back =
    added-places names old new key claim year (record { kept = h; key_is = is; slots = added; back = back })
    ∙ ap (λ (ps : List Place). ps ++ next_place ps claim year ∷ []) before
add-places names old new key claim year (Err e) places h before is added back = tt

pub add-refused : {T E : Type 0} (names : List (List ℕ)) (old new : FamilyQueues) (r : Result T E) (places : List Place) → places_of names old.slots.items ≡ places
    → OnErr r (AreAs old new) → IfErr r (λ _. places_of names new.slots.items ≡ places)
add-refused names old new (Ok x) places before refused = tt
add-refused names old new (Err e) places before refused = ap (places_of names) refused.slots ∙ before
