-- The indexes of a gate, which save each call from a walk over the journal.
use Rattle.std.specs.Prelude.{◌≡◌, ◌≢◌, ◌<◌, ℕ, suc, ◌||◌, Bool, true, false, List, length, count_by, get_or, slice_get, Some}
use Rattle.std.specs.List.{list_all}
use Rattle.std.specs.Option.{option_map_or}
use Rattle.claim_gate.specs.Terms.{TermsParts, ForTerms}
use Rattle.settlement.specs.Accounts.{account_of}
use Rattle.settlement.specs.declared.acc.Acc.{Acc}
use Rattle.settlement.specs.declared.claim.Claim.{Claim}
use Rattle.journal.specs.Places.{Place, is_decided, phase_at}
use Rattle.journal.specs.declared.phase.Phase.{Phase}
use Rattle.journal.specs.declared.phase.Phase.TheVariants.{Waiting, Ready, InWork, Decided}
use Rattle.journal.specs.Calls.{is_decided_at}
use Rattle.journal.specs.Terms.{Terms}
use Rattle.journal.specs.Events.{accepts, accepted_count, places, has_end, closed, has_take, has_decision, claim_at, before, reached}
use Rattle.journal.specs.Lawful.{Lawful}
use Rattle.journal.specs.InOrder.{AreFirstInOrder}
use Rattle.journal.specs.Gate.{is_any_end, is_any_decision}
use Rattle.journal.specs.declared.event.Event.{Event}
use Rattle.journal.specs.declared.order.Order.TheVariants.{Any}
use Rattle.claim_gate.specs.declared.intakes.Intake.{Intake}
use Rattle.claim_gate.specs.Intakes.{no_intake}

-- the claim has been taken
abbrev pub is_begun : Phase → Bool
is_begun InWork = true
is_begun (Decided left) = true
is_begun _ = false

-- the claim at a position has been taken
abbrev pub is_begun_at : List Place → ℕ → Bool
is_begun_at lanes position = option_map_or is_begun (phase_at lanes position) false

-- there is an entry for each accepted claim, in the phase that the journal implies
pub record AreMarked (J : List Event) (lanes : List Place) : Type 0 where
  pub as_many : length lanes ≡ accepted_count J
  pub taken_are : (position : ℕ) → has_take J position ≡ is_begun_at lanes position
  pub decided_are : (position : ℕ) → has_decision J position ≡ is_decided_at lanes position
  pub decisions : count_by is_any_decision J ≡ count_by (λ place. is_decided place.phase) lanes

-- the phase holds the claim until it is taken, and the resulting accumulators once it is decided
abbrev pub IsPhaseOf : Claim → Acc → Phase → Type 0
IsPhaseOf claim left (Waiting c) = c ≡ claim
IsPhaseOf claim left (Ready c) = c ≡ claim
IsPhaseOf claim left InWork = Unit {0}
IsPhaseOf claim left (Decided l) = l ≡ left

-- the entry is that of the claim at the position; the resulting accumulators are those of its account before the next position
pub record IsPlaceAt (T : Terms) (J : List Event) (position : ℕ) (place : Place) : Type 0 where
  pub claim : Claim
  pub located : claim_at T J position ≡ Some claim
  pub account : place.account ≡ account_of T.plan claim
  pub phase : IsPhaseOf claim (before T J (suc position) (account_of T.plan claim)) place.phase

-- each entry is that of the claim at its position
abbrev pub ArePlacesOf : Terms → List Event → List Place → Type 0
ArePlacesOf T J lanes = (position : ℕ) (place : Place) → slice_get lanes position ≡ Some place → IsPlaceAt T J position place

-- the progress of a provider's file is what the journal implies
pub record IsIntakeOf (J : List Event) (provider : ℕ) (intake : Intake) : Type 0 where
  pub accepted_is : intake.accepted ≡ length (places J provider)
  pub ended_is : intake.ended ≡ has_end J provider

-- there is an entry for each provider, with the progress that the journal implies
pub record AreIntakesOf (J : List Event) (providers : ℕ) (intakes : List Intake) : Type 0 where
  pub as_many : length intakes ≡ providers
  pub each : (i : ℕ) → i < providers → IsIntakeOf J (suc i) (get_or intakes i no_intake)
  pub ends : count_by is_any_end J ≡ count_by (λ x. x.ended) intakes

-- the indexes of a gate agree with its journal, and its journal is valid; where the terms ask for an order, claims are
-- accepted in that order
pub record IsKept (terms : TermsParts) (J : List Event) (lanes : List Place) (intakes : List Intake) (is_closed : Bool) (decisions : ℕ) : Type 0 where
  pub closed_is : is_closed ≡ closed J
  pub decisions_are : decisions ≡ count_by is_any_decision J
  pub intakes_are : AreIntakesOf J (length terms.files) intakes
  pub marked : AreMarked J lanes
  pub places_are : ForTerms terms (λ T. ArePlacesOf T J lanes)
  pub lawful : ForTerms terms (λ T. Lawful T J)
  pub ordered : terms.order ≢ Any → ForTerms terms (λ T. AreFirstInOrder terms.order T.files (accepts J))

-- the close is due for this number of accepted claims and this progress of the files
abbrev pub is_due : TermsParts → ℕ → List Intake → Bool
is_due terms count intakes = reached terms.cutoff count || list_all (λ x. x.ended) intakes
