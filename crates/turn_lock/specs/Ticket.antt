-- The ticket lock of Mellor-Crummey and Scott (1991): its views, and the rule that holds between
-- any two atomic steps. Word 0 is the next ticket to be drawn, and word 1 is the ticket that is
-- served. The table has one slot: the slot is at home (in the table) with the value, or away with
-- the pass in its critical section.
use Rattle.std.specs.Prelude.{◌≡◌, ◌⊎◌, ℕ, ◌+◌, ◌<◌, ◌≤◌, max, [], ◌∷◌, Option, Some, None}
use Rattle.std.proofs.Common.{subst}
use mathlib.Core.Option.{some, none}
use lib.ListN.{get_elem?}
use Rattle.atomic_table.specs.Table.{State, Me}
use Rattle.turn_lock.specs.declared.ticket.view.Stage.{Stage}
use Rattle.turn_lock.specs.declared.ticket.view.Stage.TheVariants.{Idle, Looked, Waiting, Holding}
use Rattle.turn_lock.specs.declared.ticket.view.LiveView.{LiveView}
use Rattle.turn_lock.specs.declared.ticket.view.TicketView.{TicketView}
use Rattle.turn_lock.specs.declared.ticket.view.TicketView.TheVariants.{Spent, Live}

-- 2^64 - 1: the value of the next ticket when no ticket is left; it is never drawn
abbrev pub last_word : ℕ
last_word = 18446744073709551615

-- the words, the slot and the views of a ticket lock for values of T
abbrev pub TicketState : Type 0 → Type 0
TicketState T = State (Option T) (TicketView T)

-- a pass in the table: its view, and the slot while the pass is in a critical section
abbrev pub TicketSeat : Type 0 → Type 0
TicketSeat T = Me (Option T) (TicketView T)

-- a pass in this stage has the ticket
abbrev pub HasTicket : ℕ → Stage → Type 0
HasTicket ticket Idle = ⊥
HasTicket ticket Looked = ⊥
HasTicket ticket (Waiting t) = t ≡ ticket
HasTicket ticket (Holding t) = t ≡ ticket

abbrev IsNothing : Option Stage → Type 0
IsNothing None = Unit {0}
IsNothing (Some _) = ⊥

module _ {T : Type 0} where
  -- the knowledge of the first pass of a new lock with this first ticket
  abbrev pub opened : ℕ → T → LiveView T
  opened first value = record { stage = Idle; seen = value; also = value; next = first; ended = 0; last = value }

  abbrev pub newcomer : ℕ → T → TicketView T
  newcomer first value = Live (opened first value)

  -- the pass has seen this next ticket, and has no ticket
  abbrev pub idle_at : LiveView T → ℕ → LiveView T
  idle_at k n = record { stage = Idle; seen = k.seen; also = k.also; next = n; ended = k.ended; last = k.last }

  -- the pass has looked at this next ticket
  abbrev pub looked_at : LiveView T → ℕ → LiveView T
  looked_at k n = record { stage = Looked; seen = k.seen; also = k.also; next = n; ended = k.ended; last = k.last }

  -- the pass has drawn this ticket
  abbrev pub waiting_for : LiveView T → ℕ → LiveView T
  waiting_for k ticket = record { stage = Waiting ticket; seen = k.seen; also = k.also; next = ticket + 1; ended = k.ended; last = k.last }

  -- the pass has found the value in the critical section of its ticket
  abbrev pub in_section : LiveView T → ℕ → T → LiveView T
  in_section k ticket value = record { stage = Holding ticket; seen = value; also = k.also; next = k.next; ended = k.ended; last = k.last }

  -- the pass has left the value, which ends one more critical section
  abbrev pub after_section : LiveView T → ℕ → T → LiveView T
  after_section k ticket value = record { stage = Idle; seen = value; also = value; next = ticket + 1; ended = k.ended + 1; last = k.seen }

  -- two passes without tickets, joined: the pass has seen both values and the greater next ticket,
  -- and has the first one's tally
  abbrev pub both_known : LiveView T → LiveView T → LiveView T
  both_known k l = record { stage = Idle; seen = k.seen; also = l.seen; next = max k.next l.next; ended = k.ended; last = k.last }

  abbrev pub beside : TicketView T → TicketView T → TicketView T
  beside Spent w = Spent
  beside (Live k) Spent = Live k
  beside (Live k) (Live l) = Live (both_known k l)

  -- the pass has seen this value and no other one
  abbrev pub seen_alone : LiveView T → T → LiveView T
  seen_alone k value = record { stage = Idle; seen = value; also = value; next = k.next; ended = k.ended; last = k.last }

  -- the common knowledge of two passes after `meet`, if this is the later of their values
  abbrev pub met : LiveView T → LiveView T → T → LiveView T
  met k l value = record { stage = Idle; seen = value; also = value; next = max k.next l.next; ended = k.ended; last = k.last }

  -- the stage of a pass; a spent view has none
  abbrev pub stage_of : TicketView T → Option Stage
  stage_of Spent = None
  stage_of (Live k) = Some k.stage

  -- the next ticket that the pass has seen
  abbrev pub next_of : TicketView T → ℕ
  next_of Spent = 0
  next_of (Live k) = k.next

  -- the knowledge in a view that has a stage
  abbrev pub known : (v : TicketView T) (stage : Stage) → stage_of v ≡ Some stage → LiveView T
  known Spent stage is = absurd (subst IsNothing is tt)
  known (Live k) stage is = k

  abbrev pub IsIdle : TicketSeat T → Type 0
  IsIdle me = (me.1 ≡ []) × (stage_of me.0 ≡ Some Idle)

  abbrev pub HasLooked : TicketSeat T → ℕ → Type 0
  HasLooked me n = (me.1 ≡ []) × (stage_of me.0 ≡ Some Looked) × (next_of me.0 ≡ n)

  abbrev pub IsWaiting : TicketSeat T → ℕ → Type 0
  IsWaiting me ticket = (me.1 ≡ []) × (stage_of me.0 ≡ Some (Waiting ticket)) × (next_of me.0 ≡ ticket + 1)

  -- the pass is in the critical section of this ticket, and has taken the value out of the slot
  abbrev pub IsHolding : TicketSeat T → ℕ → Type 0
  IsHolding me ticket = (me.1 ≡ (0, None) ∷ []) × (stage_of me.0 ≡ Some (Holding ticket)) × (next_of me.0 ≡ ticket + 1)

  -- the pass with index i exists and knows k
  abbrev pub Has : TicketState T → ℕ → LiveView T → Type 0
  Has s i k = get_elem? s.views i ≡ some (Live k)

  -- the slot is at home, and no pass is in a critical section
  pub record IsHome (s : TicketState T) : Type 0 where
    pub value : T
    pub home : s.homes ≡ some (Some value) ∷ []
    pub nobody : (i : ℕ) (k : LiveView T) (ticket : ℕ) → Has s i k → k.stage ≡ Holding ticket → ⊥

  -- the slot is away with a pass that is in the critical section of the served ticket
  pub record IsOut (s : TicketState T) (serving : ℕ) : Type 0 where
    pub away : s.homes ≡ none ∷ []
    pub holder : ℕ
    pub knows : LiveView T
    pub is_there : Has s holder knows
    pub holds : knows.stage ≡ Holding serving

  -- the first part of the rule, on words: the two words, the tickets that were drawn, and the
  -- location of the slot
  pub record WordsRule (first : ℕ) (s : TicketState T) : Type 0 where
    pub next : ℕ
    pub serving : ℕ
    pub words : s.words ≡ next ∷ serving ∷ []
    -- the words are in order, and neither wraps
    pub from_first : first ≤ serving
    pub served_are_drawn : serving ≤ next
    pub never_wraps : next ≤ last_word
    -- each ticket that a pass has was drawn, has not been served to its end, and belongs to no
    -- other pass
    pub tickets_in_turn : (i : ℕ) (k : LiveView T) (ticket : ℕ) → Has s i k → HasTicket ticket k.stage → (serving ≤ ticket) × (ticket < next)
    pub tickets_apart : (i j : ℕ) (k l : LiveView T) (ticket : ℕ) → Has s i k → Has s j l → HasTicket ticket k.stage → HasTicket ticket l.stage → i ≡ j
    -- the pass in a critical section has the served ticket; the slot is at home if there is no such
    -- pass
    pub holder_is_served : (i : ℕ) (k : LiveView T) (ticket : ℕ) → Has s i k → k.stage ≡ Holding ticket → ticket ≡ serving
    pub slot : IsHome s ⊎ IsOut s serving
    -- each next ticket that a pass has seen is at most the current next ticket
    pub words_seen : (i : ℕ) (k : LiveView T) → Has s i k → k.next ≤ next

  -- the second part of the rule, on values: the current value, and what the passes have seen of it
  pub record ValuesRule (leads : T → T → Type 0) (s : TicketState T) : Type 0 where
    pub current : T
    -- the current value is in the slot at home, and it is the value that the pass in a critical
    -- section found
    pub at_home : (value : T) → s.homes ≡ some (Some value) ∷ [] → value ≡ current
    pub was_found : (i : ℕ) (k : LiveView T) (ticket : ℕ) → Has s i k → k.stage ≡ Holding ticket → k.seen ≡ current
    -- every value that a pass has seen leads to the current one
    pub values_seen : (i : ℕ) (k : LiveView T) → Has s i k → leads k.seen current × leads k.also current

  -- the rule of the lock: both parts; it does not restrict spent views
  pub record TicketLockRule (leads : T → T → Type 0) (first : ℕ) (s : TicketState T) : Type 0 where
    pub words : WordsRule first s
    pub values : ValuesRule leads s
