-- The index of a journal's decisions by provider and claim, and the sums over the journal.
use Rattle.std.specs.Prelude.{◌≡◌, ◌<◌, ◌≤◌, ◌+◌, ◌-◌, ◌*◌, ◌^◌, ◌+ℤ◌, ℕ, suc, ℤ, pos, ◌==◌, cond, List, [], ◌∷◌, get_or, length, ◌++◌, slice_get, slice_index, Option, Some, None, option_map}
use Rattle.std.specs.Global.{Vec}
use Rattle.std.specs.Borrow.{Bor}
use Rattle.std.specs.Option.{option_and_then, unwrap_or}
use Rattle.fixpoint.specs.Number.{greatest_units}
use Rattle.tables.specs.Environment.{or_else}
use Rattle.settlement.specs.declared.outcome.Outcome.{Outcome}
use Rattle.journal.specs.Events.{Filed, accepted_count, accepts}
use Rattle.journal.specs.declared.event.Event.{Event}
use Rattle.journal.specs.declared.event.Event.TheVariants.{Decide}
use Rattle.remit_records.specs.declared.amount.Amount.{Amount}
use Rattle.remit_records.specs.Amounts.{amounts, amount_of}
use Rattle.remit_records.specs.Decided.{decision_at, paid_outcomes, sum_of}
use Rattle.remit_records.specs.Records.{Deciding}
use Rattle.remit_records.specs.declared.decisions.Decisions.{Decisions}
use Rattle.remit_records.specs.declared.decisions.Notes.{Notes}
use Rattle.remit_records.specs.declared.sums.Sums.{Sums}

-- the positions of a provider's claims among accepted claims, the first of which has the given position
abbrev pub positions_from : ℕ → List Filed → ℕ → List ℕ
positions_from position [] provider = []
positions_from position (filed ∷ rest) provider =
    cond (filed.provider == provider) (position ∷ positions_from (suc position) rest provider) (positions_from (suc position) rest provider)

-- the positions of a provider's claims, in order
abbrev pub positions_of : List Event → ℕ → List ℕ
positions_of J provider = positions_from 0 (accepts J) provider

-- the outcome that an optional reference points to
abbrev pub outcome_in : Option (Bor Outcome) → Option Outcome
outcome_in outcome = option_map (λ o. o.now) outcome

-- the outcome that an event records, if it decides a claim
abbrev pub outcome_by : Event → Option Outcome
outcome_by (Decide position outcome) = Some outcome
outcome_by _ = None

-- the outcome that the event at an index of the journal records, if there is such an event and it decides a claim
abbrev pub outcome_at : List Event → ℕ → Option Outcome
outcome_at J place = option_and_then outcome_by (slice_get J place)

-- the notes have the positions of the claims that the events `accepting` accept for this number of providers, and the indices in the
-- whole journal of the events among `deciding` that decide these positions
pub record Noted (whole : List Event) (providers : ℕ) (accepting deciding : List Event) (notes : Notes) : Type 0 where
  pub count : length notes.positions.items ≡ providers
  pub positions : (i : ℕ) (d : Vec ℕ) → i < providers → (get_or notes.positions.items i d).items ≡ positions_of accepting (suc i)
  pub size : length notes.decided.items ≡ accepted_count accepting
  pub decided : (k d : ℕ) → k < accepted_count accepting → outcome_at whole (get_or notes.decided.items k d) ≡ decision_at deciding k

-- the position is appended to those of this provider, and the other lists are unchanged
pub record NotesPosition (old new : List (Vec ℕ)) (provider position : ℕ) : Type 0 where
  pub count : length new ≡ length old
  pub each : (i : ℕ) (d : Vec ℕ) → i < length old → (get_or new i d).items ≡ (get_or old i d).items ++ cond (provider == suc i) (position ∷ []) []

-- the index of an event with this outcome is noted for this position, unless the position has a decision already
pub record NotesPlace (whole : List Event) (old new : List ℕ) (position : ℕ) (outcome : Option Outcome) : Type 0 where
  pub count : length new ≡ length old
  pub each : (k d : ℕ) → k < length old
      → outcome_at whole (get_or new k d) ≡ or_else (outcome_at whole (get_or old k d)) (cond (position == k) outcome None)

-- each position is replaced by the index of its decision, or by the end if the position is unknown
pub record Replaces (decided : List ℕ) (end : ℕ) (old new : List ℕ) : Type 0 where
  pub count : length new ≡ length old
  pub each : (k d : ℕ) → k < length old → get_or new k d ≡ get_or decided (get_or old k d) end

-- each position of each list is replaced in this way
pub record ReplacesEach (decided : List ℕ) (end : ℕ) (old new : List (Vec ℕ)) : Type 0 where
  pub count : length new ≡ length old
  pub each : (i : ℕ) (d : Vec ℕ) → i < length old → Replaces decided end (get_or old i d).items (get_or new i d).items

-- the outcome that the index has for a provider's claim at a place
abbrev pub found_of : Decisions → ℕ → ℕ → Option Outcome
found_of decisions provider place =
    option_and_then (outcome_at decisions.journal.now)
    (option_and_then (λ places. slice_get places.items place) (slice_get decisions.places.items (provider - 1)))

-- the number of a provider's claims that the index has
abbrev pub claim_count : Decisions → ℕ → ℕ
claim_count decisions provider = unwrap_or (option_map (λ places. length places.items) (slice_get decisions.places.items (provider - 1))) 0

-- the index has the plan's version, the number of claims that the journal accepts, and for each claim of this number of providers
-- the journal's decision on the claim's position
pub record LaidOut (version : ℕ) (providers : ℕ) (J : List Event) (decisions : Decisions) : Type 0 where
  pub version_is : decisions.version ≡ version
  pub accepted_is : decisions.accepted ≡ accepted_count J
  pub found : (i place : ℕ) → i < providers → found_of decisions (suc i) place ≡ option_and_then (decision_at J) (slice_get (positions_of J (suc i)) place)

-- the plan's version and the decisions, as the index has them
abbrev pub looked_up : Decisions → Deciding
looked_up decisions = record { version = decisions.version; decided = found_of decisions }

-- the sum of an amount over outcomes, which is at most `count` times the greatest number
pub record IsSum (amount : Outcome → ℤ) (outcomes : List Outcome) (count sum : ℕ) : Type 0 where
  pub value : pos sum ≡ sum_of amount outcomes
  pub bound : sum ≤ count * greatest_units

-- the sums of the amounts over the paid claims of a journal, in the order of the amounts, each at most `count` times the greatest number
pub record AreSums (J : List Event) (count : ℕ) (sums : Sums) : Type 0 where
  pub size : length sums.units ≡ length amounts
  pub each : (place : ℕ) (amount : Amount) → slice_get amounts place ≡ Some amount → IsSum (amount_of amount) (paid_outcomes J) count (slice_index sums.units place)

-- each sum plus one more amount fits 128 bits
pub record HaveRoom (sums : Sums) : Type 0 where
  pub size : length sums.units ≡ length amounts
  pub each : (place : ℕ) → place < length amounts → slice_index sums.units place + greatest_units < 2 ^ 128

-- the sum has grown by the amount of these outcomes, and by at most the greatest number
pub record IsGrown (amount : Outcome → ℤ) (outcomes : List Outcome) (old new : ℕ) : Type 0 where
  pub value : pos new ≡ pos old +ℤ sum_of amount outcomes
  pub bound : new ≤ old + greatest_units

-- each sum has grown by its amount of these outcomes
pub record AreGrown (outcomes : List Outcome) (old new : Sums) : Type 0 where
  pub size : length new.units ≡ length old.units
  pub each : (place : ℕ) (amount : Amount) → slice_get amounts place ≡ Some amount → IsGrown (amount_of amount) outcomes (slice_index old.units place) (slice_index new.units place)
