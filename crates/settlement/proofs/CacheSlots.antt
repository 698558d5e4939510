-- The contents of a cache after one slot is replaced.
use Rattle.std.proofs.Common.{◌≡◌, ◌⊎◌, inl, inr, ℕ, zero, suc, List, [], ◌∷◌, ◌++◌, Option, Some, None, slice_get, ap, sym}
use Rattle.std.specs.Prelude.{slice_set}
use Rattle.std.proofs.lemmas.Option.{same_Some}
use Rattle.settlement.specs.declared.determination.Determination.{Determination}
use Rattle.settlement.specs.declared.determination_cache.CacheEntry.{CacheEntry}
use Rattle.settlement.specs.Determinations.{IsCached}

set_found : (slots : List (Option CacheEntry)) (i : ℕ) (r : CacheEntry) (k : ℕ) (found : Option CacheEntry) → slice_get (slice_set slots i (Some r)) k ≡ Some found
    → (slice_get slots k ≡ Some found) ⊎ (Some r ≡ found)
set_found [] i r k found e = inl e
set_found (x ∷ xs) zero r zero found e = inr (same_Some (Some r) found e)
set_found (x ∷ xs) zero r (suc k) found e = inl e
set_found (x ∷ xs) (suc i) r zero found e = inl e
set_found (x ∷ xs) (suc i) r (suc k) found e = set_found xs i r k found e

-- an entry of the new cache is an entry of the old one, or the new entry of the slot
pub one_room : (slots : List (Option CacheEntry)) (room input_class : ℕ) (determination : Determination) (other : ℕ) (found : Determination)
    → IsCached (slice_set slots room (Some (record { input_class = input_class; determination = determination }))) other found → IsCached slots other found ⊎ ((other ≡ input_class) × (found ≡ determination))
one_room slots room input_class determination other found entry =
    let now : CacheEntry = record { input_class = input_class; determination = determination } in
    let then : CacheEntry = record { input_class = other; determination = found } in
    elim (set_found slots room now entry.0 (Some then) entry.1) [
      | inl before ↦ inl (entry.0, before)
      | inr same ↦ (let is : now ≡ then = same_Some now then same in inr (sym (ap (λ (r : CacheEntry). r.input_class) is), sym (ap (λ (r : CacheEntry). r.determination) is)))
    ]

-- one more empty slot adds no entry
none_pushed : (slots : List (Option CacheEntry)) (k : ℕ) (r : CacheEntry) → slice_get (slots ++ None ∷ []) k ≡ Some (Some r) → slice_get slots k ≡ Some (Some r)
none_pushed [] zero r e = absurd cc
none_pushed [] (suc k) r e = absurd cc
none_pushed (x ∷ xs) zero r e = e
none_pushed (x ∷ xs) (suc k) r e = none_pushed xs k r e

pub nothing_more : (slots : List (Option CacheEntry)) → ((input_class : ℕ) (determination : Determination) → IsCached slots input_class determination → ⊥) → (input_class : ℕ) (determination : Determination) → IsCached (slots ++ None ∷ []) input_class determination → ⊥
nothing_more slots none input_class determination entry = none input_class determination (entry.0, none_pushed slots entry.0 (record { input_class = input_class; determination = determination }) entry.1)
