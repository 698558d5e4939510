-- The contents of a journal: which claims it has accepted, taken and decided, and what each account
-- has.
use Rattle.std.specs.Prelude.{◌≡◌, ℕ, zero, suc, ◌==◌, Bool, true, false, cond, ◌&&◌, ◌||◌, List, [], ◌∷◌, map, take, length, get_or, slice_get, Option, Some, None, flat_map, fold, option_map}
use Rattle.std.specs.List.{list_any}
use Rattle.std.specs.Str.{bytes_eq}
use Rattle.tables.specs.Plan.{PlanParts}
use Rattle.journal.specs.Settled.{outcome_of, accumulated}
use Rattle.settlement.specs.Accounts.{Account, account_of, family_of, is_family_year, is_same}
use Rattle.settlement.specs.declared.acc.Acc.{Acc}
use Rattle.settlement.specs.declared.claim.Claim.{Claim}
use Rattle.settlement.specs.declared.outcome.Outcome.{Outcome}
use Rattle.settlement.specs.Opening.{opening}
use Rattle.journal.specs.Terms.{Terms, claims_of}
use Rattle.journal.specs.declared.event.Event.{Event}
use Rattle.journal.specs.declared.event.Event.TheVariants.{Accept, End, Close, Take, Decide}

-- the event is at this index of the journal
abbrev pub At : List Event → ℕ → Event → Type 0
At J i event = slice_get J i ≡ Some event

-- the identity of a claim: its provider, and its place among the claims of the provider's file
pub record Filed : Type 0 where
  pub provider : ℕ
  pub place : ℕ

abbrev pub accept_in : Event → List Filed
accept_in (Accept provider place) = record { provider = provider; place = place } ∷ []
accept_in _ = []

-- the accepted claims in order; the index of a claim in this list is its position
abbrev pub accepts : List Event → List Filed
accepts J = flat_map accept_in J

-- the number of accepted claims
abbrev pub accepted_count : List Event → ℕ
accepted_count J = length (accepts J)

abbrev pub place_in : ℕ → Event → List ℕ
place_in provider (Accept p place) = cond (p == provider) (place ∷ []) []
place_in provider _ = []

-- the places of a provider's accepted claims, in order
abbrev pub places : List Event → ℕ → List ℕ
places J provider = flat_map (place_in provider) J

abbrev pub is_end : ℕ → Event → Bool
is_end provider (End p) = p == provider
is_end provider _ = false

-- the provider has ended
abbrev pub has_end : List Event → ℕ → Bool
has_end J provider = list_any (is_end provider) J

abbrev pub is_close : Event → Bool
is_close Close = true
is_close _ = false

-- the journal is closed
abbrev pub closed : List Event → Bool
closed J = list_any is_close J

abbrev pub is_take : ℕ → Event → Bool
is_take position (Take k) = k == position
is_take position _ = false

-- the claim at the position was taken
abbrev pub has_take : List Event → ℕ → Bool
has_take J position = list_any (is_take position) J

abbrev pub is_decide : ℕ → Event → Bool
is_decide position (Decide k o) = k == position
is_decide position _ = false

-- the claim at the position was decided
abbrev pub has_decision : List Event → ℕ → Bool
has_decision J position = list_any (is_decide position) J

-- the event is an accept or an end
abbrev pub is_intake : Event → Bool
is_intake (Accept provider place) = true
is_intake (End provider) = true
is_intake _ = false

-- the claim itself, if the provider's file has one at this place
abbrev pub claim_filed : Terms → Filed → Option Claim
claim_filed T filed = slice_get (claims_of T filed.provider) filed.place

-- the accepted claims, by position
abbrev pub claims : Terms → List Event → List (Option Claim)
claims T J = map (claim_filed T) (accepts J)

-- the claim at a position
abbrev pub claim_at : Terms → List Event → ℕ → Option Claim
claim_at T J position = get_or (claims T J) position None

-- the family of the claim at a position; without families in the plan, each member is its own
-- family
abbrev pub lane_at : Terms → List Event → ℕ → Option (List ℕ)
lane_at T J position = option_map family_of (claim_at T J position)

-- the claim belongs to the family
abbrev pub is_of : List ℕ → Option Claim → Bool
is_of lane None = false
is_of lane (Some claim) = bytes_eq (family_of claim) lane

-- the positions of a family's claims in a list of claims, whose first one has this position
abbrev pub positions_in : List ℕ → ℕ → List (Option Claim) → List ℕ
positions_in lane position [] = []
positions_in lane position (c ∷ cs) =
    cond (is_of lane c) (position ∷ positions_in lane (suc position) cs) (positions_in lane (suc position) cs)

-- the positions of a family's claims, in order
abbrev pub positions : Terms → List Event → List ℕ → List ℕ
positions T J lane = positions_in lane 0 (claims T J)

-- the accumulators of each account
abbrev pub Book : Type 0
Book = Account → Acc

-- the accumulators of an account after a claim; the claim is settled at the accumulators of its own
-- account, and adds to that account and to the sums of its family
abbrev pub noted : PlanParts → Book → Option Claim → Book
noted plan book None account = book account
noted plan book (Some claim) account =
    accumulated (is_same (account_of plan claim) account) (is_family_year (account_of plan claim) account) (book account) (outcome_of plan claim (book (account_of plan claim)))

-- the accumulators of an account before a position: the opening balance, and what the earlier
-- claims have added
abbrev pub before : Terms → List Event → ℕ → Book
before T J position = fold (noted T.plan) (opening T.balances) (take position (claims T J))

-- the job at a position: its claim, and the accumulators of its account before it
pub record IsJob (T : Terms) (J : List Event) (position : ℕ) (claim : Claim) (acc : Acc) : Type 0 where
  pub located : claim_at T J position ≡ Some claim
  pub left : acc ≡ before T J position (account_of T.plan claim)

-- the outcome is the settlement of the claim at this position, at the accumulators of its account
-- before it
pub record IsSettled (T : Terms) (J : List Event) (position : ℕ) (decision : Outcome) : Type 0 where
  pub claim : Claim
  pub located : claim_at T J position ≡ Some claim
  pub value : decision ≡ outcome_of T.plan claim (before T J position (account_of T.plan claim))

-- the number of accepted claims is the cutoff
abbrev pub reached : Option ℕ → ℕ → Bool
reached None accepted_count = false
reached (Some cutoff) accepted_count = accepted_count == cutoff

-- the first n providers have ended
abbrev pub all_ended : ℕ → List Event → Bool
all_ended zero J = true
all_ended (suc n) J = has_end J (suc n) && all_ended n J

-- the close is due: the number of accepted claims is the cutoff, or every provider has ended
abbrev pub due : Terms → List Event → Bool
due T J = reached T.cutoff (accepted_count J) || all_ended (length T.files) J
