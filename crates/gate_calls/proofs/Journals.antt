-- What a journal says after one more event, and with the close after that.
use Rattle.std.proofs.Common.{◌≡◌, ℕ, suc, ◌==◌, Bool, true, false, cond, not, ◌&&◌, ◌||◌, List, [], ◌∷◌, ◌++◌, map, fold, take, length, get_or, None, refl, sym, ap, ◌∙◌, arith, append-nil, length-append}
use Rattle.std.specs.List.{flat_map, list_any}
use Rattle.std.proofs.lemmas.Bool.{cond-true, eq-eqb, or_right}
use Rattle.std.proofs.lemmas.List.{flat_map_more}
use Rattle.std.proofs.lemmas.List.Folds.{list_any-append}
use Rattle.settlement.specs.Accounts.{account_of}
use Rattle.settlement.specs.declared.acc.Acc.{Acc}
use Rattle.settlement.specs.declared.claim.Claim.{Claim}
use Rattle.settlement.specs.Opening.{opening}
use Rattle.journal.specs.Terms.{Terms}
use Rattle.journal.specs.Events.{IsJob, accept_in, accepts, claim_filed, claims, closed, due, has_end, is_end, is_take, noted, place_in, places, has_take}
use Rattle.journal.specs.Lawful.{closing}
use Rattle.journal.specs.declared.event.Event.{Event}
use Rattle.journal.specs.declared.event.Event.TheVariants.{Accept, End, Close, Take}

or_none : (b : Bool) → (b || false) ≡ b
or_none true = refl
or_none false = refl

-- a journal with one more event passes a test if the old one or the event does
any_last : (test : Event → Bool) (J : List Event) (event : Event) → list_any test (J ++ event ∷ []) ≡ (list_any test J || test event)
any_last test J event = list_any-append test J (event ∷ []) ∙ ap (λ b. list_any test J || b) (or_none (test event))

-- an event that fails a test does not change the result for the journal
pub any_stays : (test : Event → Bool) (J : List Event) (event : Event) → test event ≡ false → list_any test (J ++ event ∷ []) ≡ list_any test J
any_stays test J event fails = any_last test J event ∙ ap (λ b. list_any test J || b) fails ∙ or_none (list_any test J)

-- after an event that passes a test, the journal passes it
pub any_now : (test : Event → Bool) (J : List Event) (event : Event) → test event ≡ true → list_any test (J ++ event ∷ []) ≡ true
any_now test J event passes = any_last test J event ∙ or_right (list_any test J) (test event) passes

flat_last : {A : Type 0} (f : Event → List A) (J : List Event) (event : Event) → flat_map f (J ++ event ∷ []) ≡ flat_map f J ++ f event
flat_last f J event = sym (flat_map_more f [] J event)

flat_stays : {A : Type 0} (f : Event → List A) (J : List Event) (event : Event) → f event ≡ [] → flat_map f (J ++ event ∷ []) ≡ flat_map f J
flat_stays f J event none = flat_last f J event ∙ ap (λ xs. flat_map f J ++ xs) none ∙ append-nil (flat_map f J)

pub accepts_stay : (J : List Event) (event : Event) → accept_in event ≡ [] → accepts (J ++ event ∷ []) ≡ accepts J
accepts_stay J event none = flat_stays accept_in J event none

pub places_stay : (J : List Event) (event : Event) (provider : ℕ) → place_in provider event ≡ [] → places (J ++ event ∷ []) provider ≡ places J provider
places_stay J event provider none = flat_stays (place_in provider) J event none

-- an acceptance adds one place to its provider
pub places_more : (J : List Event) (provider place : ℕ) → length (places (J ++ Accept provider place ∷ []) provider) ≡ suc (length (places J provider))
places_more J provider place =
    let one : place_in provider (Accept provider place) ≡ place ∷ [] = cond-true (provider == provider) (place ∷ []) [] (eq-eqb provider provider refl) in
    let sizes = ap length (flat_last (place_in provider) J (Accept provider place) ∙ ap (λ xs. places J provider ++ xs) one) ∙ length-append (places J provider) (place ∷ []) in
    omega (arith, sizes)

pub ended_now : (J : List Event) (provider : ℕ) → has_end (J ++ End provider ∷ []) provider ≡ true
ended_now J provider = any_now (is_end provider) J (End provider) (eq-eqb provider provider refl)

-- both journals agree on the places and the end of each provider
pub record Report (old new : List Event) : Type 0 where
  pub places : (provider : ℕ) → places new provider ≡ places old provider
  pub ended : (provider : ℕ) → has_end new provider ≡ has_end old provider

-- the close changes neither the places nor the end of a provider
closed_reports : (J : List Event) → Report J (J ++ Close ∷ [])
closed_reports J = record {
  places = λ provider. places_stay J Close provider refl;
  ended = λ provider. any_stays (is_end provider) J Close refl;
}

pub closing_reports : (T : Terms) (J : List Event) → Report J (closing T J)
closing_reports T J =
    elim (due T J && not (closed J)) as (λ b. Report J (cond b (J ++ Close ∷ []) J)) [
      | true ↦ closed_reports J
      | false ↦ record { places = λ p. refl; ended = λ p. refl }
    ]

-- a job is also a job after its take
pub job_stays : (T : Terms) (J : List Event) (position : ℕ) (claim : Claim) (acc : Acc) → IsJob T J position claim acc → IsJob T (J ++ Take position ∷ []) position claim acc
job_stays T J position claim acc job =
    let same : claims T (J ++ Take position ∷ []) ≡ claims T J = ap (map (claim_filed T)) (accepts_stay J (Take position) refl) in
    record {
      located = ap (λ cs. get_or cs position None) same ∙ job.located;
      left = job.left ∙ sym (ap (λ cs. fold (noted T.plan) (opening T.balances) (take position cs) (account_of T.plan claim)) same);
    }

pub now_taken : (J : List Event) (position : ℕ) → has_take (J ++ Take position ∷ []) position ≡ true
now_taken J position = any_now (is_take position) J (Take position) (eq-eqb position position refl)
