-- The effects of the calls on the places.
use Rattle.std.specs.Prelude.{◌≡◌, ℕ, zero, suc, Bool, false, cond, if◌then◌else◌, List, [], ◌∷◌, take, Some, slice_get}
use Rattle.std.specs.Option.{option_map_or}
use Rattle.settlement.specs.Accounts.{account_in, family_of}
use Rattle.settlement.specs.declared.acc.Acc.{Acc}
use Rattle.settlement.specs.declared.claim.Claim.{Claim}
use Rattle.journal.specs.Places.{Phase, Waiting, Ready, InWork, Decided, Place, is_of, is_ready, is_decided, all_decided, present, started, phase_at}
use Rattle.journal.specs.declared.ready_claim.ReadyClaim.{ReadyClaim}

-- the phase of a claim that is added after these places: ready if each earlier claim of its family
-- is decided
abbrev pub next_phase : List Place → Claim → Phase
next_phase places claim = if all_decided (family_of claim) places then Ready claim else Waiting claim

-- the place of a claim that is added after these places, of its account in this year
abbrev pub next_place : List Place → Claim → ℕ → Place
next_place places claim year = record { account = account_in year claim; phase = next_phase places claim }

-- the phase of a claim that is added when the last claim of its family is in this phase
abbrev pub phase_after : Phase → Claim → Phase
phase_after (Decided left) claim = Ready claim
phase_after _ claim = Waiting claim

-- the places after the phase at one position changes
abbrev pub with_phase : List Place → ℕ → Phase → List Place
with_phase [] position phase = []
with_phase (place ∷ rest) zero phase = record place { phase = phase } ∷ rest
with_phase (place ∷ rest) (suc position) phase = place ∷ with_phase rest position phase

-- the taken claim was ready at its position, and for all opening accumulators, the accumulators
-- that come with it are those of its account after the earlier claims
pub record IsPicked (places : List Place) (picked : ReadyClaim) : Type 0 where
  pub place : Place
  pub there : slice_get places picked.position ≡ Some place
  pub ready : place.phase ≡ Ready picked.claim
  pub located : (opening : Acc) → started opening picked.own picked.family_year ≡ present place.account opening (take picked.position places)

-- no claim is ready
abbrev pub NothingReady : List Place → Type 0
NothingReady places = (position : ℕ) (place : Place) → slice_get places position ≡ Some place → is_ready place.phase ≡ false

-- the claim at a position is taken and not decided yet
abbrev pub IsInWork : List Place → ℕ → Type 0
IsInWork places position = phase_at places position ≡ Some InWork

-- a waiting claim becomes ready; other phases do not change
abbrev pub ready_at : Phase → Phase
ready_at (Waiting claim) = Ready claim
ready_at phase = phase

-- the places after the first claim of the family becomes ready, if it waits
abbrev pub release_first : List ℕ → List Place → List Place
release_first family [] = []
release_first family (place ∷ rest) =
    cond (is_of family place) (record place { phase = ready_at place.phase } ∷ rest) (place ∷ release_first family rest)

-- the places after the claim at a position is decided: the next claim of its family becomes ready
abbrev pub with_decision : List Place → ℕ → Acc → List Place
with_decision [] position left = []
with_decision (place ∷ rest) zero left = record place { phase = Decided left } ∷ release_first place.account.family rest
with_decision (place ∷ rest) (suc position) left = place ∷ with_decision rest position left

-- there is a claim at the position, and it is decided
abbrev pub is_decided_at : List Place → ℕ → Bool
is_decided_at places position = option_map_or is_decided (phase_at places position) false
