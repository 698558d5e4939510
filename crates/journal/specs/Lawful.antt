-- The rules of a lawful journal, and of a finished one.
use Rattle.std.specs.Prelude.{◌≡◌, ◌<◌, ◌≤◌, ℕ, zero, suc, true, false, List, [], ◌∷◌, ◌++◌, take, length, cond, not, ◌&&◌}
use Rattle.settlement.specs.declared.outcome.Outcome.{Outcome}
use Rattle.journal.specs.Terms.{Terms, IsProvider, claims_of}
use Rattle.journal.specs.Events.{At, accepted_count, places, has_end, closed, has_take, has_decision, is_intake, lane_at, IsSettled, due}
use Rattle.journal.specs.declared.event.Event.{Event}
use Rattle.journal.specs.declared.event.Event.TheVariants.{Accept, End, Close, Take, Decide}

-- the numbers 0 to n - 1
abbrev pub numbers_below : ℕ → List ℕ
numbers_below zero = []
numbers_below (suc n) = numbers_below n ++ n ∷ []

-- the rule for the end of a provider: it comes once, after all claims of the provider's file have
-- been accepted
pub record EndsWhole (T : Terms) (J : List Event) (i provider : ℕ) : Type 0 where
  pub known : IsProvider T provider
  pub whole : length (places J provider) ≡ length (claims_of T provider)
  pub following : places (take i J) provider ≡ places J provider
  pub once : has_end (take i J) provider ≡ false

-- the rule for the close: it comes as soon as it is due, and no accept or end follows it
pub record ClosesWhenDue (T : Terms) (J : List Event) (i : ℕ) : Type 0 where
  pub when : due T (take i J) ≡ true
  pub first : (j : ℕ) → j < i → due T (take j J) ≡ false
  pub last : (j : ℕ) (event : Event) → i < j → At J j event → is_intake event ≡ false

-- the rule for a take: an accepted claim is taken once, after each earlier claim of its family was
-- decided
pub record TakesInTurn (T : Terms) (J : List Event) (i position : ℕ) : Type 0 where
  pub following : position < accepted_count (take i J)
  pub once : has_take (take i J) position ≡ false
  pub in_turn : (k : ℕ) → k < position → lane_at T J k ≡ lane_at T J position → has_decision (take i J) k ≡ true

-- the rule for a decision: a claim that was taken is decided once, and its outcome is its
-- settlement
pub record DecidesRight (T : Terms) (J : List Event) (i position : ℕ) (decision : Outcome) : Type 0 where
  pub following : has_take (take i J) position ≡ true
  pub once : has_decision (take i J) position ≡ false
  pub settled : IsSettled T J position decision

-- each event obeys its rule; the claims of a provider are accepted in the order of its file
pub record Sound (T : Terms) (J : List Event) : Type 0 where
  pub in_order : (provider : ℕ) → places J provider ≡ numbers_below (length (places J provider))
  pub within : (provider : ℕ) → length (places J provider) ≤ length (claims_of T provider)
  pub ends : (i provider : ℕ) → At J i (End provider) → EndsWhole T J i provider
  pub closes : (i : ℕ) → At J i Close → ClosesWhenDue T J i
  pub takes : (i position : ℕ) → At J i (Take position) → TakesInTurn T J i position
  pub decides : (i position : ℕ) (decision : Outcome) → At J i (Decide position decision) → DecidesRight T J i position decision

-- the journal is lawful: each event obeys its rule, and if the close was due, the journal is closed
pub record Lawful (T : Terms) (J : List Event) : Type 0 where
  pub sound : Sound T J
  pub closed_when_due : (i : ℕ) → due T (take i J) ≡ true → closed J ≡ true

-- the journal is finished: it is lawful and closed, and each accepted claim is decided
pub record Finished (T : Terms) (J : List Event) : Type 0 where
  pub lawful : Lawful T J
  pub closed : closed J ≡ true
  pub all : (position : ℕ) → position < accepted_count J → has_decision J position ≡ true

-- the journal, with the close appended if it is due and missing
abbrev pub closing : Terms → List Event → List Event
closing T J = cond (due T J && not (closed J)) (J ++ Close ∷ []) J

-- the claim at the position may be taken: it was not taken yet, and each earlier claim of its
-- family is decided
pub record IsReady (T : Terms) (J : List Event) (position : ℕ) : Type 0 where
  pub following : position < accepted_count J
  pub once : has_take J position ≡ false
  pub in_turn : (k : ℕ) → k < position → lane_at T J k ≡ lane_at T J position → has_decision J k ≡ true

-- the claim is the provider's next one, and the journal is not closed
pub record IsNextClaim (T : Terms) (J : List Event) (provider place : ℕ) : Type 0 where
  pub open_yet : closed J ≡ false
  pub place_is : place ≡ length (places J provider)
  pub there : place < length (claims_of T provider)

-- the provider may end: all its claims are accepted, and it has not ended yet
pub record IsNextEnd (T : Terms) (J : List Event) (provider : ℕ) : Type 0 where
  pub open_yet : closed J ≡ false
  pub known : IsProvider T provider
  pub whole : length (places J provider) ≡ length (claims_of T provider)
  pub once : has_end J provider ≡ false

-- the claim may be decided so: it was taken but not decided, and the outcome is its settlement
pub record IsNextDecision (T : Terms) (J : List Event) (position : ℕ) (decision : Outcome) : Type 0 where
  pub following : has_take J position ≡ true
  pub once : has_decision J position ≡ false
  pub settled : IsSettled T J position decision

-- the close is due now, and was not due before
pub record IsNextClose (T : Terms) (J : List Event) : Type 0 where
  pub when : due T J ≡ true
  pub first : (i : ℕ) → i < length J → due T (take i J) ≡ false

-- the event may come next
abbrev pub Fits : Terms → List Event → Event → Type 0
Fits T J (Accept provider place) = IsNextClaim T J provider place
Fits T J (End provider) = IsNextEnd T J provider
Fits T J Close = IsNextClose T J
Fits T J (Take position) = IsReady T J position
Fits T J (Decide position decision) = IsNextDecision T J position decision
