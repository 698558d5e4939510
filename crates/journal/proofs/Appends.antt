-- The parts of a journal after one or more events are appended.
use Rattle.std.proofs.Common.{◌≡◌, ℕ, ◌<◌, ◌≤◌, ◌+◌, ◌==◌, Bool, true, false, List, [], ◌∷◌, ◌++◌, map, take, drop, length, get_or, Some, None, fold, option_map, refl, sym, ap, ◌∙◌, subst, inl, inr, arith, length-append, append-nil, take-append-drop, eqb-true}
use Rattle.std.proofs.lemmas.Bool.{cond-true, cond-false, cases_lt}
use Rattle.std.proofs.lemmas.List.{flat_map_more, map-append, length-map, get_or_append_left, take-append-le, get_or_past}
use Rattle.std.proofs.lemmas.Option.{none-some}
use Rattle.settlement.specs.declared.outcome.Outcome.{Outcome}
use Rattle.settlement.specs.Accounts.{Account, account_of, family_of}
use Rattle.settlement.specs.Opening.{opening}
use Rattle.journal.specs.Terms.{Terms}
use Rattle.journal.specs.Settled.{outcome_of}
use Rattle.journal.specs.Events.{accept_in, accepts, accepted_count, place_in, places, claim_filed, claims, claim_at, lane_at, noted, before, IsSettled}
use Rattle.journal.specs.declared.event.Event.{Event}
use Rattle.journal.specs.declared.event.Event.TheVariants.{Accept, End, Close, Take, Decide}
use Rattle.journal.proofs.Grown.{flat_map-append}

pub accepted-append : (J K : List Event) → accepted_count (J ++ K) ≡ accepted_count J + accepted_count K
accepted-append J K = ap length (flat_map-append accept_in J K) ∙ length-append (accepts J) (accepts K)

-- a prefix accepts at most as many claims as the whole journal
pub accepted-take : (i : ℕ) (J : List Event) → accepted_count (take i J) ≤ accepted_count J
accepted-take i J =
    let split : accepted_count (take i J ++ drop i J) ≡ accepted_count (take i J) + accepted_count (drop i J) = accepted-append (take i J) (drop i J) in
    let whole : accepted_count (take i J ++ drop i J) ≡ accepted_count J = ap accepted_count (take-append-drop i J) in
    omega arith

pub places-more : (J : List Event) (event : Event) (provider : ℕ) → places (J ++ event ∷ []) provider ≡ places J provider ++ place_in provider event
places-more J event provider = sym (flat_map_more (place_in provider) [] J event)

-- an appended event is the next accept of the provider, or does not change its places
pub data Placed (J : List Event) (event : Event) (provider : ℕ) : Type 0 where
  same : places (J ++ event ∷ []) provider ≡ places J provider → Placed J event provider
  next : (place : ℕ) → event ≡ Accept provider place → places (J ++ event ∷ []) provider ≡ places J provider ++ place ∷ [] → Placed J event provider

unplaced : (J : List Event) (event : Event) (provider : ℕ) → place_in provider event ≡ [] → Placed J event provider
unplaced J event provider none =
    same (places-more J event provider ∙ ap (λ w. places J provider ++ w) none ∙ append-nil (places J provider))

accept_placed : (J : List Event) (p place provider : ℕ) (b : Bool) → (p == provider) ≡ b → Placed J (Accept p place) provider
accept_placed J p place provider true is =
    next place (ap (λ w. Accept w place) (eqb-true p provider is))
    (places-more J (Accept p place) provider ∙ ap (λ w. places J provider ++ w) (cond-true (p == provider) (place ∷ []) [] is))
accept_placed J p place provider false is = unplaced J (Accept p place) provider (cond-false (p == provider) (place ∷ []) [] is)

pub placed : (J : List Event) (event : Event) (provider : ℕ) → Placed J event provider
placed J (Accept p place) provider = accept_placed J p place provider (p == provider) refl
placed J (End p) provider = unplaced J (End p) provider refl
placed J Close provider = unplaced J Close provider refl
placed J (Take k) provider = unplaced J (Take k) provider refl
placed J (Decide k o) provider = unplaced J (Decide k o) provider refl

pub claims-append : (T : Terms) (J K : List Event) → claims T (J ++ K) ≡ claims T J ++ claims T K
claims-append T J K = ap (map (claim_filed T)) (flat_map-append accept_in J K) ∙ map-append (claim_filed T) (accepts J) (accepts K)

pub length-claims : (T : Terms) (J : List Event) → length (claims T J) ≡ accepted_count J
length-claims T J = length-map (accepts J) (claim_filed T)

-- the claim at a position does not change
pub claim_at-append : (T : Terms) (J K : List Event) (k : ℕ) → k < accepted_count J → claim_at T (J ++ K) k ≡ claim_at T J k
claim_at-append T J K k below =
    ap (λ w. get_or w k None) (claims-append T J K)
    ∙ get_or_append_left (claims T J) (claims T K) None k (subst (λ w. k < w) (sym (length-claims T J)) below)

pub lane_at-append : (T : Terms) (J K : List Event) (k : ℕ) → k < accepted_count J → lane_at T (J ++ K) k ≡ lane_at T J k
lane_at-append T J K k below = ap (option_map family_of) (claim_at-append T J K k below)

-- a position with a claim is an accepted one
pub claim_at_within : (T : Terms) (J : List Event) (k : ℕ) (c : _) → claim_at T J k ≡ Some c → k < accepted_count J
claim_at_within T J k c h =
    elim (cases_lt k (accepted_count J)) [
      | inl below ↦ below
      | inr past ↦
          let none : claim_at T J k ≡ None = get_or_past (claims T J) k None (subst (λ w. w ≤ k) (sym (length-claims T J)) past) in
          absurd (none-some c (sym none ∙ h))
    ]

pub before-append : (T : Terms) (J K : List Event) (k : ℕ) (account : Account) → k ≤ accepted_count J → before T (J ++ K) k account ≡ before T J k account
before-append T J K k account within =
    let cut : take k (claims T J ++ claims T K) ≡ take k (claims T J) =
    take-append-le k (claims T J) (claims T K) (subst (λ w. k ≤ w) (sym (length-claims T J)) within) in
    ap (λ w. fold (noted T.plan) (opening T.balances) (take k w) account) (claims-append T J K)
    ∙ ap (λ w. fold (noted T.plan) (opening T.balances) w account) cut

-- a settlement remains one when the journal is continued
pub IsSettled-append : (T : Terms) (J K : List Event) (k : ℕ) (decision : Outcome) → IsSettled T J k decision → IsSettled T (J ++ K) k decision
IsSettled-append T J K k decision s =
    let below : k < accepted_count J = claim_at_within T J k s.claim s.located in
    let within : k ≤ accepted_count J = omega arith in
    record {
      claim = s.claim;
      located = claim_at-append T J K k below ∙ s.located;
      value = s.value ∙ ap (outcome_of T.plan s.claim) (sym (before-append T J K k (account_of T.plan s.claim) within));
    }
