-- The slots after some of them are set.
use Rattle.std.proofs.Common.{◌≡◌, ◌<◌, ℕ, zero, suc, List, [], ◌∷◌, length, get_or, Some, refl, sym, ap, ◌∙◌, arith}
use Rattle.std.specs.List.{slice_get, slice_set}
use Rattle.std.proofs.lemmas.List.{length-set}
use Rattle.std.proofs.lemmas.Option.{none-some, same_Some, slice_get_read}
use Rattle.settlement.specs.declared.acc.Acc.{Acc}
use Rattle.journal.specs.Places.{Decided}
use Rattle.journal.specs.Calls.{ready_at}
use Rattle.journal.specs.declared.slot.Slot.{Slot}

-- an item that is not set does not change
pub get-set-other : {X : Type 0} (xs : List X) (i j : ℕ) (x : X) → ¬ (j ≡ i) → slice_get (slice_set xs i x) j ≡ slice_get xs j
get-set-other [] i j x other = refl
get-set-other (y ∷ ys) zero zero x other = absurd (other refl)
get-set-other (y ∷ ys) zero (suc j) x other = refl
get-set-other (y ∷ ys) (suc i) zero x other = refl
get-set-other (y ∷ ys) (suc i) (suc j) x other = get-set-other ys i j x (λ same. other (ap suc same))

-- the item at the set position is the new one
pub get-set-same : {X : Type 0} (xs : List X) (i : ℕ) (y x : X) → slice_get xs i ≡ Some y → slice_get (slice_set xs i x) i ≡ Some x
get-set-same [] i y x there = absurd (none-some y there)
get-set-same (z ∷ zs) zero y x there = refl
get-set-same (z ∷ zs) (suc i) y x there = get-set-same zs i y x there

pub get-set-within : {X : Type 0} (xs : List X) (i : ℕ) (x : X) → i < length xs → slice_get (slice_set xs i x) i ≡ Some x
get-set-within [] i x within = absurd (omega (arith, within))
get-set-within (z ∷ zs) zero x within = refl
get-set-within (z ∷ zs) (suc i) x within = get-set-within zs i x (omega (arith, within))

-- an item that is read after another one is set has not changed
pub read-following : {X : Type 0} (xs : List X) (i j : ℕ) (new x : X) → ¬ (j ≡ i) → j < length xs → x ≡ get_or (slice_set xs i new) j x → slice_get xs j ≡ Some x
read-following xs i j new x other within read =
    let size = length-set xs i new in
    sym (get-set-other xs i j new other) ∙ slice_get_read (slice_set xs i new) (length xs) j x (sym size) within read

-- the slots after one is decided and the next of its lane is released
pub decided-next : (slots : List Slot) (position next : ℕ) (left : Acc) (read mid newer : Slot) (slot after : Slot) → slice_get slots position ≡ Some slot
    → slice_get slots next ≡ Some after → slice_get slots position ≡ Some read → slice_get slots next ≡ Some mid
    → newer ≡ record mid { phase = ready_at mid.phase }
    → slice_set (slice_set slots position (record read { phase = Decided left })) next newer
    ≡ slice_set (slice_set slots position (record slot { phase = Decided left })) next (record after { phase = ready_at after.phase })
decided-next slots position next left read mid newer slot after here there is_read is_mid is_new =
    let one : read ≡ slot = same_Some read slot (sym is_read ∙ here) in
    let two : mid ≡ after = same_Some mid after (sym is_mid ∙ there) in
    rw (is_new, one, two) refl
