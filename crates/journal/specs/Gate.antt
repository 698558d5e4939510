-- The sequential gate, and the relation "leads to" between its states.
use Rattle.std.specs.Prelude.{◌≡◌, ◌≢◌, ◌<◌, ◌≤◌, ℕ, Bool, true, false, List, [], ◌∷◌, ◌++◌, length, count_by}
use Rattle.settlement.specs.declared.acc.Acc.{Acc}
use Rattle.settlement.specs.declared.claim.Claim.{Claim}
use Rattle.settlement.specs.declared.outcome.Outcome.{Outcome}
use Rattle.journal.specs.Terms.{Terms}
use Rattle.journal.specs.Settled.{outcome_of}
use Rattle.journal.specs.Events.{accepted_count, places, has_end, closed, has_take, has_decision, IsJob}
use Rattle.journal.specs.Lawful.{Finished, IsReady, closing}
use Rattle.journal.specs.declared.event.Event.{Event}
use Rattle.journal.specs.declared.event.Event.TheVariants.{Accept, End, Take, Decide}

-- the state of a gate: its terms, in a form X, its journal, and whether it is stopped
pub record GateOver (X : Type 0) : Type 0 where
  pub terms : X
  pub journal : List Event
  pub stopped : Bool

-- the state of a gate with the terms in the form that journals use
abbrev pub GateAt : Type 0
GateAt = GateOver Terms

-- the later journal begins with the earlier one
pub record Continues (earlier later : List Event) : Type 0 where
  pub rest : List Event
  pub whole : later ≡ earlier ++ rest

-- the later state may follow the earlier one: the terms are the same, the journal is continued, and
-- after a stop nothing changes
pub record LeadsTo {X : Type 0} (earlier later : GateOver X) : Type 0 where
  pub terms : later.terms ≡ earlier.terms
  pub journal : Continues earlier.journal later.journal
  pub stop : earlier.stopped ≡ true → later ≡ earlier

-- the possible answers of each call of a gate
pub data OfferReply : Type 0 where
  Accepted : ℕ → OfferReply
  Stopped : OfferReply
  Closed : OfferReply
  OutOfTurn : ℕ → OfferReply
  NoMemory : OfferReply

pub data EndReply : Type 0 where
  Ended : EndReply
  Stopped : EndReply
  Closed : EndReply
  OutOfTurn : ℕ → EndReply
  AlreadyEnded : EndReply
  NoMemory : EndReply

pub data TakeReply : Type 0 where
  Stopped : TakeReply
  Over : TakeReply
  NothingReady : TakeReply
  Work : ℕ → Claim → Acc → TakeReply
  NoMemory : TakeReply

pub data FinishReply : Type 0 where
  Recorded : FinishReply
  Stopped : FinishReply
  AlreadyDecided : FinishReply
  NoMemory : FinishReply

-- the gate is not stopped
abbrev pub IsRunning : GateAt → Type 0
IsRunning old = old.stopped ≡ false

-- the gate is not stopped, and its journal is not closed
abbrev pub IsOpen : GateAt → Type 0
IsOpen old = IsRunning old × (closed old.journal ≡ false)

-- the event is appended to the journal
abbrev pub Adds : GateAt → Event → GateAt → Type 0
Adds old event new = new ≡ record old { journal = old.journal ++ event ∷ [] }

-- the event is appended to the journal, and after it the close if it is then due
abbrev pub AddsAndCloses : GateAt → Event → GateAt → Type 0
AddsAndCloses old event new = new ≡ record old { journal = closing old.terms (old.journal ++ event ∷ []) }

-- `offer` of a provider's claim at a place: the claim is accepted if it is the provider's next one
abbrev pub Offers : GateAt → ℕ → ℕ → OfferReply → GateAt → Type 0
Offers old provider place Stopped new = (old.stopped ≡ true) × (new ≡ old)
Offers old provider place Closed new = IsRunning old × (closed old.journal ≡ true) × (new ≡ old)
Offers old provider place (OutOfTurn expected) new =
    IsOpen old × (expected ≡ length (places old.journal provider)) × (place ≢ expected) × (new ≡ old)
Offers old provider place (Accepted position) new =
    IsOpen old × (place ≡ length (places old.journal provider)) × (position ≡ accepted_count old.journal) × AddsAndCloses old (Accept provider place) new
Offers old provider place NoMemory new = new ≡ old

-- `end` of a provider with the given number of claims: the provider ends if that number of claims
-- is accepted
abbrev pub Ends : GateAt → ℕ → ℕ → EndReply → GateAt → Type 0
Ends old provider count Stopped new = (old.stopped ≡ true) × (new ≡ old)
Ends old provider count Closed new = IsRunning old × (closed old.journal ≡ true) × (new ≡ old)
Ends old provider count (OutOfTurn expected) new =
    IsOpen old × (expected ≡ length (places old.journal provider)) × (expected < count) × (new ≡ old)
Ends old provider count AlreadyEnded new =
    IsOpen old × (count ≤ length (places old.journal provider)) × (has_end old.journal provider ≡ true) × (new ≡ old)
Ends old provider count Ended new =
    IsOpen old × (count ≤ length (places old.journal provider)) × (has_end old.journal provider ≡ false) × AddsAndCloses old (End provider) new
Ends old provider count NoMemory new = new ≡ old

-- the job at a ready position
pub record IsWork (old : GateAt) (position : ℕ) (claim : Claim) (acc : Acc) : Type 0 where
  pub ready : IsReady old.terms old.journal position
  pub job : IsJob old.terms old.journal position claim acc

-- `take` of a claim: any ready position may be taken
abbrev pub Takes : GateAt → TakeReply → GateAt → Type 0
Takes old Stopped new = (old.stopped ≡ true) × (new ≡ old)
Takes old Over new = IsRunning old × Finished old.terms old.journal × (new ≡ old)
Takes old NothingReady new =
    IsRunning old × (¬ Finished old.terms old.journal) × ((position : ℕ) → ¬ IsReady old.terms old.journal position) × (new ≡ old)
Takes old (Work position claim acc) new =
    IsRunning old × (¬ Finished old.terms old.journal) × IsWork old position claim acc × Adds old (Take position) new
Takes old NoMemory new = new ≡ old

-- `finish` of the job at a position with an outcome
abbrev pub Finishes : GateAt → ℕ → Outcome → FinishReply → GateAt → Type 0
Finishes old position decision Stopped new = (old.stopped ≡ true) × (new ≡ old)
Finishes old position decision AlreadyDecided new = IsRunning old × (has_decision old.journal position ≡ true) × (new ≡ old)
Finishes old position decision Recorded new =
    IsRunning old × (has_decision old.journal position ≡ false) × Adds old (Decide position decision) new
Finishes old position decision NoMemory new = new ≡ old

-- the condition of `finish`: the position was taken, the job is the one at the position, and the
-- outcome is its settlement
pub record MayFinish (old : GateAt) (position : ℕ) (claim : Claim) (acc : Acc) (decision : Outcome) : Type 0 where
  pub in_work : has_take old.journal position ≡ true
  pub job : IsJob old.terms old.journal position claim acc
  pub settled : decision ≡ outcome_of old.terms.plan claim acc

-- `stop` of the gate: the journal does not change
abbrev pub Stops : GateAt → GateAt → Type 0
Stops old new = new ≡ record old { stopped = true }

abbrev pub is_any_end : Event → Bool
is_any_end (End provider) = true
is_any_end _ = false

abbrev pub is_any_decision : Event → Bool
is_any_decision (Decide position decision) = true
is_any_decision _ = false

-- `counts` of the gate: the numbers of claims accepted, providers ended and claims decided, and
-- whether the gate is closed and stopped
pub record Counts (g : GateAt) (accepts ends decisions : ℕ) (is_closed is_stopped : Bool) : Type 0 where
  pub accepts_is : accepts ≡ accepted_count g.journal
  pub ends_is : ends ≡ count_by is_any_end g.journal
  pub decisions_is : decisions ≡ count_by is_any_decision g.journal
  pub closed_is : is_closed ≡ closed g.journal
  pub stopped_is : is_stopped ≡ g.stopped
