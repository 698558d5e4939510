-- What a journal says after one more event, and with the close after that.
use Rattle.std.proofs.Common.{◌≡◌, ◌≢◌, ℕ, ◌+◌, ◌<◌, ◌==◌, Bool, true, false, cond, not, ◌&&◌, ◌||◌, List, [], ◌∷◌, ◌++◌, length, refl, sym, ap, ◌∙◌, arith, append-nil, eqb-true}
use Rattle.std.specs.List.{flat_map, list_any}
use Rattle.std.proofs.lemmas.Bool.{both_ways, cond-false, cond-true, eq-eqb, false_from_ne_true, or_right}
use Rattle.std.proofs.lemmas.List.{flat_map_more, length_push}
use Rattle.std.proofs.lemmas.List.Folds.{list_any-append}
use Rattle.settlement.specs.declared.outcome.Outcome.{Outcome}
use Rattle.journal.specs.Terms.{Terms}
use Rattle.journal.specs.Events.{accept_in, accepted_count, accepts, closed, due, has_decision, has_end, has_take, is_decide, is_end, is_take, place_in, places}
use Rattle.journal.specs.Lawful.{Lawful, Sound, closing}
use Rattle.journal.specs.declared.event.Event.{Event}
use Rattle.journal.specs.declared.event.Event.TheVariants.{Accept, End, Close, Take, Decide}
use Rattle.journal.proofs.Appends.{accepted-take}
use Rattle.journal.proofs.Grown.{list_any-take, list_any_stays}
use Rattle.journal.proofs.Marks.{decision_located, take_located}

or_none : (b : Bool) → (b || false) ≡ b
or_none true = refl
or_none false = refl

any_last : (test : Event → Bool) (J : List Event) (event : Event) → list_any test (J ++ event ∷ []) ≡ (list_any test J || test event)
any_last test J event = list_any-append test J (event ∷ []) ∙ ap (λ b. list_any test J || b) (or_none (test event))

-- an event that fails a test does not change its answer
pub any_stays : (test : Event → Bool) (J : List Event) (event : Event) → test event ≡ false → list_any test (J ++ event ∷ []) ≡ list_any test J
any_stays test J event other = any_last test J event ∙ ap (λ b. list_any test J || b) other ∙ or_none (list_any test J)

-- with an event that passes a test, the journal passes it
pub any_now : (test : Event → Bool) (J : List Event) (event : Event) → test event ≡ true → list_any test (J ++ event ∷ []) ≡ true
any_now test J event passes = any_last test J event ∙ or_right (list_any test J) (test event) passes

flat_last : {A : Type 0} (f : Event → List A) (J : List Event) (event : Event) → flat_map f (J ++ event ∷ []) ≡ flat_map f J ++ f event
flat_last f J event = sym (flat_map_more f [] J event)

flat_stays : {A : Type 0} (f : Event → List A) (J : List Event) (event : Event) → f event ≡ [] → flat_map f (J ++ event ∷ []) ≡ flat_map f J
flat_stays f J event none = flat_last f J event ∙ ap (λ xs. flat_map f J ++ xs) none ∙ append-nil (flat_map f J)

-- both journals accept the same claims, take them and decide them
pub record Alike (J K : List Event) : Type 0 where
  pub accepted : accepted_count K ≡ accepted_count J
  pub places : (provider : ℕ) → length (places K provider) ≡ length (places J provider)
  pub taken : (position : ℕ) → has_take K position ≡ has_take J position
  pub decided : (position : ℕ) → has_decision K position ≡ has_decision J position

same_alike : (J : List Event) → Alike J J
same_alike J = record { accepted = refl; places = λ p. refl; taken = λ k. refl; decided = λ k. refl }

pub alike_further : (J K L : List Event) → Alike J K → Alike K L → Alike J L
alike_further J K L one other = record {
  accepted = other.accepted ∙ one.accepted;
  places = λ p. other.places p ∙ one.places p;
  taken = λ k. other.taken k ∙ one.taken k;
  decided = λ k. other.decided k ∙ one.decided k;
}

close_alike : (J : List Event) → Alike J (J ++ Close ∷ [])
close_alike J = record {
  accepted = ap length (flat_stays accept_in J Close refl);
  places = λ p. ap length (flat_stays (place_in p) J Close refl);
  taken = λ k. any_stays (is_take k) J Close refl;
  decided = λ k. any_stays (is_decide k) J Close refl;
}

-- the close changes none of this
pub closing_alike : (T : Terms) (J : List Event) → Alike J (closing T J)
closing_alike T J = elim (due T J && not (closed J)) as (λ b. Alike J (cond b (J ++ Close ∷ []) J)) [ true ↦ close_alike J | false ↦ same_alike J ]

-- an end changes none of this
pub end_alike : (J : List Event) (provider : ℕ) → Alike J (J ++ End provider ∷ [])
end_alike J provider = record {
  accepted = ap length (flat_stays accept_in J (End provider) refl);
  places = λ p. ap length (flat_stays (place_in p) J (End provider) refl);
  taken = λ k. any_stays (is_take k) J (End provider) refl;
  decided = λ k. any_stays (is_decide k) J (End provider) refl;
}

-- the close changes no end
pub closing_ends : (T : Terms) (J : List Event) (provider : ℕ) → has_end (closing T J) provider ≡ has_end J provider
closing_ends T J provider =
    elim (due T J && not (closed J)) as (λ b. has_end (cond b (J ++ Close ∷ []) J) provider ≡ has_end J provider) [
      | true ↦ any_stays (is_end provider) J Close refl
      | false ↦ refl
    ]

pub ended_now : (J : List Event) (provider : ℕ) → has_end (J ++ End provider ∷ []) provider ≡ true
ended_now J provider = any_now (is_end provider) J (End provider) (eq-eqb provider provider refl)

-- what an acceptance changes
pub accepted_more : (J : List Event) (provider place : ℕ) → accepted_count (J ++ Accept provider place ∷ []) ≡ accepted_count J + 1
accepted_more J provider place = ap length (flat_last accept_in J (Accept provider place)) ∙ length_push (accepts J) (record { provider = provider; place = place })

pub places_more : (J : List Event) (provider place : ℕ) → length (places (J ++ Accept provider place ∷ []) provider) ≡ length (places J provider) + 1
places_more J provider place =
    let one : place_in provider (Accept provider place) ≡ place ∷ [] = cond-true (provider == provider) (place ∷ []) [] (eq-eqb provider provider refl) in
    ap length (flat_last (place_in provider) J (Accept provider place) ∙ ap (λ xs. places J provider ++ xs) one) ∙ length_push (places J provider) place

pub places_of_others : (J : List Event) (provider place other : ℕ) → other ≢ provider → places (J ++ Accept provider place ∷ []) other ≡ places J other
places_of_others J provider place other differs =
    let apart : (provider == other) ≡ false = false_from_ne_true (provider == other) (λ same. differs (sym (eqb-true provider other same))) in
    flat_stays (place_in other) J (Accept provider place) (cond-false (provider == other) (place ∷ []) [] apart)

pub taken_stays : (J : List Event) (provider place position : ℕ) → has_take (J ++ Accept provider place ∷ []) position ≡ has_take J position
taken_stays J provider place position = any_stays (is_take position) J (Accept provider place) refl

pub decided_stays : (J : List Event) (provider place position : ℕ) → has_decision (J ++ Accept provider place ∷ []) position ≡ has_decision J position
decided_stays J provider place position = any_stays (is_decide position) J (Accept provider place) refl

-- what a take changes
pub take_accepts : (J : List Event) (position : ℕ) → accepted_count (J ++ Take position ∷ []) ≡ accepted_count J
take_accepts J position = ap length (flat_stays accept_in J (Take position) refl)

pub take_places : (J : List Event) (position provider : ℕ) → length (places (J ++ Take position ∷ []) provider) ≡ length (places J provider)
take_places J position provider = ap length (flat_stays (place_in provider) J (Take position) refl)

pub take_decides : (J : List Event) (position other : ℕ) → has_decision (J ++ Take position ∷ []) other ≡ has_decision J other
take_decides J position other = any_stays (is_decide other) J (Take position) refl

pub taken_now : (J : List Event) (position : ℕ) → has_take (J ++ Take position ∷ []) position ≡ true
taken_now J position = any_now (is_take position) J (Take position) (eq-eqb position position refl)

-- what a decision changes
pub decide_accepts : (J : List Event) (position : ℕ) (decision : Outcome) → accepted_count (J ++ Decide position decision ∷ []) ≡ accepted_count J
decide_accepts J position decision = ap length (flat_stays accept_in J (Decide position decision) refl)

pub decide_places : (J : List Event) (position : ℕ) (decision : Outcome) (provider : ℕ) → length (places (J ++ Decide position decision ∷ []) provider) ≡ length (places J provider)
decide_places J position decision provider = ap length (flat_stays (place_in provider) J (Decide position decision) refl)

pub decided_now : (J : List Event) (position : ℕ) (decision : Outcome) → has_decision (J ++ Decide position decision ∷ []) position ≡ true
decided_now J position decision = any_now (is_decide position) J (Decide position decision) (eq-eqb position position refl)

-- a decision stays one when the journal is continued
pub decided_further : (J : List Event) (event : Event) (position : ℕ) → has_decision J position ≡ true → has_decision (J ++ event ∷ []) position ≡ true
decided_further J event position decided = list_any_stays (is_decide position) J (event ∷ []) decided

-- a claim that is taken is accepted, and one that is decided is taken
pub taken_accepted : (T : Terms) (J : List Event) → Sound T J → (position : ℕ) → has_take J position ≡ true → position < accepted_count J
taken_accepted T J sound position taken =
    let there = take_located J position taken in
    omega (arith, (sound.takes there.index position there.at).following, accepted-take there.index J)

pub decided_taken : (T : Terms) (J : List Event) → Sound T J → (position : ℕ) → has_decision J position ≡ true → has_take J position ≡ true
decided_taken T J sound position decided =
    let there = decision_located J position decided in
    list_any-take (is_take position) there.index J (sound.decides there.index position there.decision there.at).following

-- the position of the next accepted claim is not taken
pub not_taken_yet : (T : Terms) (J : List Event) → Lawful T J → has_take J (accepted_count J) ≡ false
not_taken_yet T J lawful =
    false_from_ne_true (has_take J (accepted_count J)) (λ taken. omega (arith, taken_accepted T J lawful.sound (accepted_count J) taken))

-- a claim that is not taken is not decided
pub not_decided_yet : (T : Terms) (J : List Event) → Lawful T J → (position : ℕ) → has_take J position ≡ false → has_decision J position ≡ false
not_decided_yet T J lawful position waits =
    false_from_ne_true (has_decision J position) (λ decided. both_ways (has_take J position) waits (decided_taken T J lawful.sound position decided))
