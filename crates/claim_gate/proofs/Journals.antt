-- The parts of a journal after one more event.
use Rattle.std.proofs.Common.{◌≡◌, ℕ, ◌+◌, Bool, true, false, ◌||◌, List, [], ◌∷◌, ◌++◌, map, length, refl, sym, ap, ◌∙◌, length-append, append-nil}
use Rattle.std.specs.List.{list_any, flat_map}
use Rattle.std.proofs.lemmas.Bool.{or_right, or_left}
use Rattle.std.proofs.lemmas.List.{flat_map_more, map-append, length-map}
use Rattle.std.proofs.lemmas.List.Folds.{list_any-append}
use Rattle.journal.specs.Terms.{Terms}
use Rattle.journal.specs.Events.{accept_in, accepts, accepted_count, place_in, places, claim_filed, claims}
use Rattle.journal.specs.declared.event.Event.{Event}

pub or_none : (b : Bool) → (b || false) ≡ b
or_none true = refl
or_none false = refl

-- an event that fails a test does not change the result for the journal
pub any_stays : (test : Event → Bool) (J : List Event) (event : Event) → test event ≡ false → list_any test (J ++ event ∷ []) ≡ list_any test J
any_stays test J event h =
    list_any-append test J (event ∷ []) ∙ ap (λ w. list_any test J || (w || false)) h ∙ or_none (list_any test J)

-- after an event that passes a test, the journal passes it
pub any_now : (test : Event → Bool) (J : List Event) (event : Event) → test event ≡ true → list_any test (J ++ event ∷ []) ≡ true
any_now test J event h =
    list_any-append test J (event ∷ []) ∙ or_right (list_any test J) (test event || false) (or_left (test event) false h)

flat_map_last : {X A : Type 0} (f : X → List A) (xs : List X) (x : X) → flat_map f (xs ++ x ∷ []) ≡ flat_map f xs ++ f x
flat_map_last f xs x = sym (flat_map_more f [] xs x)

pub accepted_more : (J : List Event) (event : Event) → accepted_count (J ++ event ∷ []) ≡ accepted_count J + length (accept_in event)
accepted_more J event = ap length (flat_map_last accept_in J event) ∙ length-append (accepts J) (accept_in event)

pub places_more : (J : List Event) (event : Event) (provider : ℕ) → places (J ++ event ∷ []) provider ≡ places J provider ++ place_in provider event
places_more J event provider = flat_map_last (place_in provider) J event

pub places_stay : (J : List Event) (event : Event) (provider : ℕ) → place_in provider event ≡ [] → places (J ++ event ∷ []) provider ≡ places J provider
places_stay J event provider none = places_more J event provider ∙ ap (λ w. places J provider ++ w) none ∙ append-nil (places J provider)

pub claims_more : (T : Terms) (J : List Event) (event : Event) → claims T (J ++ event ∷ []) ≡ claims T J ++ map (claim_filed T) (accept_in event)
claims_more T J event = ap (map (claim_filed T)) (flat_map_last accept_in J event) ∙ map-append (claim_filed T) (accepts J) (accept_in event)

pub claims_stay : (T : Terms) (J : List Event) (event : Event) → accept_in event ≡ [] → claims T (J ++ event ∷ []) ≡ claims T J
claims_stay T J event none =
    claims_more T J event ∙ ap (λ w. claims T J ++ map (claim_filed T) w) none ∙ append-nil (claims T J)

pub length-claims : (T : Terms) (J : List Event) → length (claims T J) ≡ accepted_count J
length-claims T J = length-map (accepts J) (claim_filed T)
