-- The slots of claims, with their links to the next claim of the lane and back to the last claims
-- of the account and of the family and year.
use Rattle.std.specs.Prelude.{◌≡◌, ◌<◌, ◌==◌, ◌+◌, ◌^◌, ℕ, true, false, Bool, cond, List, [], ◌∷◌, ◌++◌, map, length, take, get_or, slice_get, slice_set, Option, Some, None, count_by, vec_len, vec_capacity, if◌then◌else◌}
use Rattle.std.specs.Option.{option_map_or}
use Rattle.std.specs.VecDeque.{deque_len, deque_capacity}
use Rattle.settlement.specs.Accounts.{Account}
use Rattle.settlement.specs.declared.acc.Acc.{Acc}
use Rattle.settlement.specs.declared.claim.Claim.{Claim}
use Rattle.journal.specs.Places.{Phase, Decided, InWork, Place, InTurn, Ready, is_ready, left_of}
use Rattle.journal.specs.Calls.{phase_after, ready_at}
use Rattle.journal.specs.LastByKey.{AccumulatorKey, last_of_number, last_of_key, family_key, family_year_in, is_key}
use Rattle.journal.specs.Names.{AreDistinct}
use Rattle.journal.specs.declared.ready_claim.ReadyClaim.{ReadyClaim}
use Rattle.journal.specs.declared.family_queues.FamilyQueues.{FamilyQueues}
use Rattle.journal.specs.declared.slot.Slot.{Slot}

-- the account of a key
abbrev pub account_at : List (List ℕ) → AccumulatorKey → Account
account_at names key = record { family = get_or names key.family []; member = get_or names key.member []; year = key.year }

-- the key is that of the account
pub record IsKeyOf (names : List (List ℕ)) (key : AccumulatorKey) (account : Account) : Type 0 where
  pub family : slice_get names key.family ≡ Some account.family
  pub member : slice_get names key.member ≡ Some account.member
  pub year : key.year ≡ account.year

-- the place of a slot's claim, by the list of names
abbrev pub place_of : List (List ℕ) → Slot → Place
place_of names slot = record { account = account_at names slot.key; phase = slot.phase }

-- the places of the claims of all slots
abbrev pub places_of : List (List ℕ) → List Slot → List Place
places_of names slots = map (place_of names) slots

-- there is memory for one more claim in this lane
pub record HasRoom (queues : FamilyQueues) (lane : ℕ) : Type 0 where
  pub position : vec_len queues.slots + 1 < 2 ^ 32
  pub slots : vec_len queues.slots < vec_capacity queues.slots
  pub ends : lane < length queues.ends.positions.items
  pub ready : deque_len queues.ready < deque_capacity queues.ready

-- the queues are the same except for reserved memory
pub record AreAs (old new : FamilyQueues) : Type 0 where
  pub slots : new.slots.items ≡ old.slots.items
  pub ends : (lane : ℕ) → last_of_number new.ends lane ≡ last_of_number old.ends lane
  pub accounts : (q : AccumulatorKey) → last_of_key new.lasts.accounts q ≡ last_of_key old.lasts.accounts q
  pub family_years : (q : AccumulatorKey) → family_year_in new.lasts q ≡ family_year_in old.lasts q
  pub ready : new.ready.items ≡ old.ready.items

-- the slot at a position
abbrev pub SlotAt : FamilyQueues → ℕ → Slot → Type 0
SlotAt queues position slot = slice_get queues.slots.items position ≡ Some slot

-- the accumulators after the claim of a slot, if it is decided
abbrev pub left_of_slot : Option Slot → Option Acc
left_of_slot None = None
left_of_slot (Some slot) = left_of slot.phase

-- the accumulators after the claim at a position, if there is one and it is decided
abbrev pub left_at : List Slot → Option ℕ → Option Acc
left_at slots None = None
left_at slots (Some position) = left_of_slot (slice_get slots position)

-- the slot of an added claim
abbrev pub slot_after : FamilyQueues → AccumulatorKey → Phase → Slot
slot_after old key phase = record {
  key = key;
  next = None;
  own = last_of_key old.lasts.accounts key;
  family_year = family_year_in old.lasts (family_key key);
  phase = phase;
}

-- the queue with the position appended, if the phase is ready
abbrev pub queued : List ℕ → ℕ → Phase → List ℕ
queued queue position phase = if is_ready phase then queue ++ position ∷ [] else queue

-- the slot of an added claim is appended, and its position to the queue if the claim is ready; the
-- last slot of its lane, if there is one, has a link to it
abbrev pub AddsSlot : FamilyQueues → FamilyQueues → AccumulatorKey → Claim → Option ℕ → Type 0
AddsSlot old new key claim None =
    (new.slots.items ≡ old.slots.items ++ slot_after old key (Ready claim) ∷ []) × (new.ready.items ≡ queued old.ready.items (vec_len old.slots) (Ready claim))
AddsSlot old new key claim (Some last) = (before : Slot) → SlotAt old last before
    → (new.slots.items ≡ slice_set old.slots.items last (record before { next = Some (vec_len old.slots) }) ++ slot_after old key (phase_after before.phase claim) ∷ [])
    × (new.ready.items ≡ queued old.ready.items (vec_len old.slots) (phase_after before.phase claim))

-- the position is now the last of its lane, of its account and of its family and year
pub record LinksBack (old new : FamilyQueues) (key : AccumulatorKey) (position : ℕ) : Type 0 where
  pub ends : (lane : ℕ) → last_of_number new.ends lane ≡ cond (key.family == lane) (Some position) (last_of_number old.ends lane)
  pub accounts : (q : AccumulatorKey) → last_of_key new.lasts.accounts q ≡ cond (is_key key q) (Some position) (last_of_key old.lasts.accounts q)
  pub family_years : (q : AccumulatorKey) → family_year_in new.lasts (family_key q) ≡ cond (is_key (family_key key) (family_key q)) (Some position) (family_year_in old.lasts (family_key q))

-- the last slot of a lane has a link to the next one, whose claim is in this phase
pub record Follows (old new : FamilyQueues) (last next : ℕ) (claim : Claim) (phase : Phase) : Type 0 where
  pub slots : (before : Slot) → SlotAt old last before → new.slots.items ≡ slice_set old.slots.items last (record before { next = Some next })
  pub phase_is : (before : Slot) → SlotAt old last before → phase ≡ phase_after before.phase claim
  pub len : vec_len new.slots ≡ vec_len old.slots
  pub capacity : vec_capacity new.slots ≡ vec_capacity old.slots
  pub ends : new.ends ≡ old.ends
  pub lasts : new.lasts ≡ old.lasts
  pub ready : new.ready ≡ old.ready

-- the claim of a slot is decided; the next claim of the lane, if there is one, becomes ready and
-- its position is appended to the queue
abbrev pub DecidesSlot : FamilyQueues → FamilyQueues → ℕ → Slot → Acc → Option ℕ → Type 0
DecidesSlot old new position slot left None =
    (new.slots.items ≡ slice_set old.slots.items position (record slot { phase = Decided left })) × (new.ready.items ≡ old.ready.items)
DecidesSlot old new position slot left (Some next) = (after : Slot) → SlotAt old next after
    → (new.slots.items ≡ slice_set (slice_set old.slots.items position (record slot { phase = Decided left })) next (record after { phase = ready_at after.phase }))
    × (new.ready.items ≡ old.ready.items ++ next ∷ [])

-- the first claim in the queue is ready
abbrev pub FirstIsReady : FamilyQueues → Type 0
FirstIsReady queues = (position : ℕ) (rest : List ℕ) → queues.ready.items ≡ position ∷ rest
    → (slot : Slot) × SlotAt queues position slot × (is_ready slot.phase ≡ true)

-- the queue is empty, and nothing changes
pub record IsIdle (old new : FamilyQueues) : Type 0 where
  pub empty : old.ready.items ≡ []
  pub same : AreAs old new

-- the first claim in the queue is taken, with the accumulators after the last claims of its account
-- and of its family and year
pub record TakesFirst (old new : FamilyQueues) (picked : ReadyClaim) : Type 0 where
  pub slot : Slot
  pub there : SlotAt old picked.position slot
  pub phase : slot.phase ≡ Ready picked.claim
  pub own : picked.own ≡ left_at old.slots.items slot.own
  pub family_year : picked.family_year ≡ left_at old.slots.items slot.family_year
  pub slots : new.slots.items ≡ slice_set old.slots.items picked.position (record slot { phase = InWork })
  pub ends : new.ends ≡ old.ends
  pub lasts : new.lasts ≡ old.lasts
  pub queue : old.ready.items ≡ picked.position ∷ new.ready.items

-- the slot at a position has a link to an existing slot other than itself, if it has a link
abbrev pub NextIsAnother : FamilyQueues → ℕ → Type 0
NextIsAnother queues position = (slot : Slot) (next : ℕ) → SlotAt queues position slot → slot.next ≡ Some next
    → (after : Slot) × SlotAt queues next after × ¬ (next ≡ position)

-- the account of each slot
abbrev pub keys_of : List Slot → List AccumulatorKey
keys_of slots = map (λ slot. slot.key) slots

-- the lane of each slot
abbrev pub lanes_of : List Slot → List ℕ
lanes_of slots = map (λ slot. slot.key.family) slots

-- the next slot of the lane, for each slot
abbrev pub nexts_of : List Slot → List (Option ℕ)
nexts_of slots = map (λ slot. slot.next) slots

-- the last earlier slot of the account, for each slot
abbrev pub owns_of : List Slot → List (Option ℕ)
owns_of slots = map (λ slot. slot.own) slots

-- the last earlier slot of the family and year, for each slot
abbrev pub houses_of : List Slot → List (Option ℕ)
houses_of slots = map (λ slot. slot.family_year) slots

-- no slot after this position belongs to the lane
abbrev pub NoneAfter : List ℕ → ℕ → ℕ → Type 0
NoneAfter lanes lane position = (k : ℕ) → position < k → ¬ (slice_get lanes k ≡ Some lane)

-- the position is that of the last slot of the lane
pub record IsLast (lanes : List ℕ) (lane position : ℕ) : Type 0 where
  pub there : slice_get lanes position ≡ Some lane
  pub last : NoneAfter lanes lane position

-- the position is that of the last slot of the lane, or the lane has no slot
abbrev pub IsEnd : List ℕ → ℕ → Option ℕ → Type 0
IsEnd lanes lane None = (k : ℕ) → ¬ (slice_get lanes k ≡ Some lane)
IsEnd lanes lane (Some position) = IsLast lanes lane position

-- the next position is that of the first slot of the lane after the position
pub record IsNext (lanes : List ℕ) (lane position next : ℕ) : Type 0 where
  pub there : slice_get lanes next ≡ Some lane
  pub following : position < next
  pub first : (k : ℕ) → position < k → k < next → ¬ (slice_get lanes k ≡ Some lane)

-- the link of a slot to the next slot of its lane is right
abbrev pub IsFollowedBy : List ℕ → ℕ → ℕ → Option ℕ → Type 0
IsFollowedBy lanes lane position None = NoneAfter lanes lane position
IsFollowedBy lanes lane position (Some next) = IsNext lanes lane position next

-- the last slot of each lane and the links to the next slots are right
pub record AreLinked (lanes : List ℕ) (nexts : List (Option ℕ)) (end : ℕ → Option ℕ) : Type 0 where
  pub ended : (lane : ℕ) → IsEnd lanes lane (end lane)
  pub followed : (position lane : ℕ) (next : Option ℕ) → slice_get lanes position ≡ Some lane → slice_get nexts position ≡ Some next
      → IsFollowedBy lanes lane position next

-- the last position of a key that passes the test, if the first of these keys has position `n`
abbrev pub last_from : ℕ → (AccumulatorKey → Bool) → List AccumulatorKey → Option ℕ → Option ℕ
last_from n test [] found = found
last_from n test (k ∷ ks) found = last_from (n + 1) test ks (cond (test k) (Some n) found)

-- the last position of a key that passes the test
abbrev pub last_of : (AccumulatorKey → Bool) → List AccumulatorKey → Option ℕ
last_of test ks = last_from 0 test ks None

-- the last position of an account among these keys
abbrev pub last_own : AccumulatorKey → List AccumulatorKey → Option ℕ
last_own key keys = last_of (λ k. is_key k key) keys

-- the last position of a family and year among these keys
abbrev pub last_shared : AccumulatorKey → List AccumulatorKey → Option ℕ
last_shared key keys = last_of (λ k. is_key (family_key k) (family_key key)) keys

-- the last slots of each account and of each family and year are right, and so are the links of
-- each slot back to its predecessors
pub record AreBacked (keys : List AccumulatorKey) (owns houses : List (Option ℕ)) (accounts family_years : AccumulatorKey → Option ℕ) : Type 0 where
  pub accounts_are : (key : AccumulatorKey) → accounts key ≡ last_own key keys
  pub family_years_are : (key : AccumulatorKey) → family_years (family_key key) ≡ last_shared key keys
  pub own : (position : ℕ) (key : AccumulatorKey) → slice_get keys position ≡ Some key → slice_get owns position ≡ Some (last_own key (take position keys))
  pub family_year : (position : ℕ) (key : AccumulatorKey) → slice_get keys position ≡ Some key → slice_get houses position ≡ Some (last_shared key (take position keys))

-- the numbers in the keys are below the count of names
pub record AreKnown (count : ℕ) (keys : List AccumulatorKey) : Type 0 where
  pub family : (position : ℕ) (key : AccumulatorKey) → slice_get keys position ≡ Some key → key.family < count
  pub member : (position : ℕ) (key : AccumulatorKey) → slice_get keys position ≡ Some key → key.member < count

-- one if the claim at the position is ready, and zero otherwise
abbrev pub ready_there : List Place → ℕ → ℕ
ready_there places position = cond (option_map_or (λ place. is_ready place.phase) (slice_get places position) false) 1 0

-- the queue has the position of each ready claim once, and no other position
abbrev pub AreQueued : List Place → List ℕ → Type 0
AreQueued places queue = (position : ℕ) → count_by (λ k. k == position) queue ≡ ready_there places position

-- the invariant of the queues and the names
pub record AreKept (names : List (List ℕ)) (queues : FamilyQueues) : Type 0 where
  pub distinct : AreDistinct names
  pub known : AreKnown (length names) (keys_of queues.slots.items)
  pub linked : AreLinked (lanes_of queues.slots.items) (nexts_of queues.slots.items) (last_of_number queues.ends)
  pub backed : AreBacked (keys_of queues.slots.items) (owns_of queues.slots.items) (houses_of queues.slots.items) (last_of_key queues.lasts.accounts) (family_year_in queues.lasts)
  pub queued : AreQueued (places_of names queues.slots.items) queues.ready.items
  pub in_turn : InTurn (places_of names queues.slots.items)
