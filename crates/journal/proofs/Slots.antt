-- The slots, their places and their lanes.
use Rattle.std.proofs.Common.{◌≡◌, ◌<◌, ℕ, zero, suc, true, false, not, ◌||◌, List, [], ◌∷◌, length, map, get_or, take, Some, refl, sym, ap, ◌∙◌, arith}
use Rattle.std.specs.List.{slice_get, slice_set}
use Rattle.std.specs.Option.{option_map}
use Rattle.std.specs.Str.{bytes_eq}
use Rattle.std.proofs.lemmas.Bool.{false_from_ne_true, and_right}
use Rattle.std.proofs.lemmas.Option.{none-some, same_Some, slice_get-get_or, slice_get-map}
use Rattle.std.proofs.lemmas.Slice.Eq.{bytes_eq-Decides}
use Rattle.journal.specs.Places.{Phase, Place, all_decided, is_decided, is_of}
use Rattle.journal.specs.Calls.{with_phase}
use Rattle.journal.specs.Names.{AreDistinct}
use Rattle.journal.specs.FamilyQueues.{AreKnown, keys_of, lanes_of, nexts_of, place_of, places_of}
use Rattle.journal.specs.declared.slot.Slot.{Slot}

-- the place of a slot
pub place-at : (names : List (List ℕ)) (slots : List Slot) (k : ℕ) (slot : Slot) → slice_get slots k ≡ Some slot
    → slice_get (places_of names slots) k ≡ Some (place_of names slot)
place-at names slots k slot there = slice_get-map (place_of names) slots k ∙ ap (option_map (place_of names)) there

-- the slot of a place
pub slot-of : (names : List (List ℕ)) (slots : List Slot) (k : ℕ) (p : Place) → slice_get (places_of names slots) k ≡ Some p
    → (slot : Slot) × (slice_get slots k ≡ Some slot) × (place_of names slot ≡ p)
slot-of names [] k p there = absurd (none-some p there)
slot-of names (s ∷ ss) zero p there = (s, refl, same_Some _ _ there)
slot-of names (s ∷ ss) (suc k) p there = slot-of names ss k p there

-- the lane of a slot
pub lane-at : (slots : List Slot) (k : ℕ) (slot : Slot) → slice_get slots k ≡ Some slot → slice_get (lanes_of slots) k ≡ Some slot.key.family
lane-at slots k slot there = slice_get-map (λ (x : Slot). x.key.family) slots k ∙ ap (option_map (λ (x : Slot). x.key.family)) there

-- the account of a slot
pub key-at : (slots : List Slot) (k : ℕ) (slot : Slot) → slice_get slots k ≡ Some slot → slice_get (keys_of slots) k ≡ Some slot.key
key-at slots k slot there = slice_get-map (λ (x : Slot). x.key) slots k ∙ ap (option_map (λ (x : Slot). x.key)) there

pub next-at : (slots : List Slot) (k : ℕ) (slot : Slot) → slice_get slots k ≡ Some slot → slice_get (nexts_of slots) k ≡ Some slot.next
next-at slots k slot there = slice_get-map (λ (x : Slot). x.next) slots k ∙ ap (option_map (λ (x : Slot). x.next)) there

-- the slot at a position of a lane
pub slot-in : (slots : List Slot) (k lane : ℕ) → slice_get (lanes_of slots) k ≡ Some lane → (slot : Slot) × (slice_get slots k ≡ Some slot) × (slot.key.family ≡ lane)
slot-in [] k lane there = absurd (none-some lane there)
slot-in (s ∷ ss) zero lane there = (s, refl, same_Some _ _ there)
slot-in (s ∷ ss) (suc k) lane there = slot-in ss k lane there

-- the places of slots after the phase of one slot changes
pub places-with : (names : List (List ℕ)) (slots : List Slot) (k : ℕ) (slot : Slot) (phase : Phase) → slice_get slots k ≡ Some slot
    → places_of names (slice_set slots k (record slot { phase = phase })) ≡ with_phase (places_of names slots) k phase
places-with names [] k slot phase there = refl
places-with names (s ∷ ss) zero slot phase there = ap (λ (x : Slot). place_of names (record x { phase = phase }) ∷ places_of names ss) (sym (same_Some s slot there))
places-with names (s ∷ ss) (suc k) slot phase there = ap (λ xs. place_of names s ∷ xs) (places-with names ss k slot phase there)

-- a property of slots does not change if a slot is set to one with the same property
pub same-set : {X : Type 0} (f : Slot → X) (slots : List Slot) (k : ℕ) (slot new : Slot) → slice_get slots k ≡ Some slot → f new ≡ f slot
    → map f (slice_set slots k new) ≡ map f slots
same-set f [] k slot new there same = refl
same-set f (s ∷ ss) zero slot new there same = ap (λ x. x ∷ map f ss) (same ∙ ap f (sym (same_Some s slot there)))
same-set f (s ∷ ss) (suc k) slot new there same = ap (λ xs. f s ∷ xs) (same-set f ss k slot new there same)

-- the family of a lane
lane-family : (names : List (List ℕ)) (lane : ℕ) → lane < length names → slice_get names lane ≡ Some (get_or names lane [])
lane-family names lane within = slice_get-get_or names lane [] within

-- slots of different lanes belong to different families
pub apart : (names : List (List ℕ)) (lane other : ℕ) → AreDistinct names → lane < length names → other < length names → ¬ (other ≡ lane)
    → bytes_eq (get_or names other []) (get_or names lane []) ≡ false
apart names lane other distinct one two differ =
    false_from_ne_true _ (λ equal.
    let same = (bytes_eq-Decides (get_or names other []) (get_or names lane [])).0 equal in
    differ (distinct other lane (get_or names lane []) (lane-family names other two ∙ ap Some same) (lane-family names lane one))
    )

-- slots of one lane belong to one family
pub alike : (names : List (List ℕ)) (lane other : ℕ) → other ≡ lane → bytes_eq (get_or names other []) (get_or names lane []) ≡ true
alike names lane other same = (bytes_eq-Decides (get_or names other []) (get_or names lane [])).1 (ap (λ k. get_or names k []) same)

-- a family without slots in its lane has no places
pub none-of : (names : List (List ℕ)) (slots : List Slot) (lane k : ℕ) (p : Place) → AreDistinct names → AreKnown (length names) (keys_of slots)
    → lane < length names → ¬ (slice_get (lanes_of slots) k ≡ Some lane) → slice_get (places_of names slots) k ≡ Some p → is_of (get_or names lane []) p ≡ false
none-of names slots lane k p distinct known within none there =
    let (slot, at, is) = slot-of names slots k p there in
    let here = known.family k slot.key (key-at slots k slot at) in
    let differ = apart names lane slot.key.family distinct within here (λ same. none (lane-at slots k slot at ∙ ap Some same)) in
    ap (λ (x : Place). bytes_eq x.account.family (get_or names lane [])) (sym is) ∙ differ

-- a family has an earlier claim that is not decided
pub held : (places : List Place) (k n : ℕ) (p : Place) (m : List ℕ) → slice_get places k ≡ Some p → is_of m p ≡ true → is_decided p.phase ≡ false → k < n
    → all_decided m (take n places) ≡ false
held [] k n p m there mine undecided following = absurd (none-some p there)
held (q ∷ qs) k zero p m there mine undecided following = absurd (omega (arith, following))
held (q ∷ qs) zero (suc n) p m there mine undecided following =
    let same = same_Some q p there in
    let here : is_of m q ≡ true = ap (λ (x : Place). is_of m x) same ∙ mine in
    let off : is_decided q.phase ≡ false = ap (λ (x : Place). is_decided x.phase) same ∙ undecided in
    rw (here, off) refl
held (q ∷ qs) (suc k) (suc n) p m there mine undecided following =
    and_right (not (is_of m q) || is_decided q.phase) (all_decided m (take n qs)) (held qs k n p m there mine undecided (omega (arith, following)))
