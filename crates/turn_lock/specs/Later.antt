-- The ticket lock over time: the effect of one atomic step, and what no number of steps can undo.
use Rattle.std.specs.Prelude.{◌≡◌, ◌<◌, ◌≤◌, ◌^◌, ◌%◌, ℕ, ◌+◌, eqb, ◌∷◌, [], ◌++◌, Some, slice_index, slice_set}
use mathlib.Core.Option.{some, none}
use lib.ListN.{get_elem?}
use prog.Atomic.{either}
use Rattle.atomic_table.specs.Table.{step}
use Rattle.turn_lock.specs.declared.ticket.view.Stage.TheVariants.{Idle}
use Rattle.turn_lock.specs.declared.ticket.view.LiveView.{LiveView}
use Rattle.turn_lock.specs.declared.ticket.view.TicketView.{TicketView}
use Rattle.turn_lock.specs.declared.ticket.view.TicketView.TheVariants.{Spent}
use Rattle.turn_lock.specs.Ticket.{TicketState, TicketSeat, HasTicket, Has, TicketLockRule, beside, stage_of, next_of}
use Rattle.turn_lock.specs.Steps.{Looks, Draws, Serves, Settles, Leaves}

module _ {T : Type 0} where
  -- the next ticket, and the served ticket
  abbrev pub next_word : TicketState T → ℕ
  next_word s = slice_index s.words 0

  abbrev pub served_word : TicketState T → ℕ
  served_word s = slice_index s.words 1

  -- the pass goes from me to me', and the word at the place becomes f of its old value
  pub record Goes (s s' : TicketState T) (place : ℕ) (f : ℕ → ℕ) (id : ℕ) (me me' : TicketSeat T) : Type 0 where
    pub is_there : get_elem? s.views id ≡ some me.0
    pub words : s'.words ≡ slice_set s.words place (f (slice_index s.words place))
    pub views : s'.views ≡ slice_set s.views id me'.0

  -- a draw by a pass that has looked: the next ticket is incremented if it is the one looked at
  abbrev pub GoesToDraw : TicketState T → TicketState T → ℕ → TicketSeat T → TicketSeat T → Type 0
  GoesToDraw s s' id me me' = Goes s s' 0 (λ word. either (eqb word (next_of me.0)) (next_of me.0 + 1) word) id me me' × Draws (step 1 0 (next_of me.0) (next_of me.0 + 1) none) me (next_word s) me'

  -- one step draws this ticket
  abbrev pub DrawsTicket : ℕ → TicketState T → TicketState T → Type 0
  DrawsTicket ticket s s' = (id : ℕ) × (me : TicketSeat T) × (me' : TicketSeat T) × GoesToDraw s s' id me me' × (next_of me.0 ≡ ticket) × (next_word s ≡ ticket)

module _ {T : Type 0} (leads : T → T → Type 0) where
  -- the end of a critical section: the served ticket is incremented
  abbrev pub GoesToLeave : TicketState T → TicketState T → ℕ → TicketSeat T → TicketSeat T → Type 0
  GoesToLeave s s' id me me' = Goes s s' 1 (λ word. (word + 1) % 2 ^ 64) id me me' × Leaves leads (step 1 1 1 0 none) me (served_word s) me'

  -- one step ends the critical section of this ticket
  abbrev pub LeavesTicket : ℕ → TicketState T → TicketState T → Type 0
  LeavesTicket ticket s s' = (id : ℕ) × (me : TicketSeat T) × (me' : TicketSeat T) × GoesToLeave s s' id me me' × (served_word s ≡ ticket)

  -- one atomic step of a pass leads from s to s'; nothing is said of the slot
  pub data Next (s s' : TicketState T) : Type 0 where
    splits : (id : ℕ) (v : TicketView T) → get_elem? s.views id ≡ some v → stage_of v ≡ Some Idle → s'.words ≡ s.words → s'.views ≡ s.views ++ v ∷ [] → Next s s'
    joins : (id other : ℕ) (v w : TicketView T) → get_elem? s.views id ≡ some v → get_elem? s.views other ≡ some w → stage_of v ≡ Some Idle → stage_of w ≡ Some Idle → s'.words ≡ s.words
        → s'.views ≡ slice_set (slice_set s.views id (beside v w)) other Spent → Next s s'
    settles : (id : ℕ) (me me' : TicketSeat T) → Goes s s' 0 (λ word. word) id me me' → Settles leads (step 1 0 0 0 none) me (next_word s) me' → Next s s'
    looks : (id : ℕ) (me me' : TicketSeat T) → Goes s s' 0 (λ word. word) id me me' → Looks (step 1 0 0 0 none) me (next_word s) me' → Next s s'
    draws : (id : ℕ) (me me' : TicketSeat T) → GoesToDraw s s' id me me' → Next s s'
    serves : (id : ℕ) (me me' : TicketSeat T) → Goes s s' 1 (λ word. word) id me me' → Serves leads (step 1 1 0 0 none) me (served_word s) me' → Next s s'
    leaves : (id : ℕ) (me me' : TicketSeat T) → GoesToLeave s s' id me me' → Next s s'

  -- a number of steps, zero or more, of any passes leads from s to s', and every step begins in a
  -- state that satisfies the rule of the lock
  pub data Later (first : ℕ) (s : TicketState T) : TicketState T → Type 0 where
    here : Later first s s
    onward : (a b : TicketState T) → Later first s a → TicketLockRule leads first a → Next a b → Later first s b

  -- the following holds for any number of steps of any number of passes
  pub record TicketsComeOnce (first : ℕ) : Type 0 where
    -- neither word decreases
    pub words_rise : (s s' : TicketState T) → Later first s s' → (next_word s ≤ next_word s') × (served_word s ≤ served_word s')
    -- a ticket is drawn at most once: each ticket that is drawn later is greater
    pub drawn_once : (a b c d : TicketState T) (t u : ℕ) → TicketLockRule leads first a → DrawsTicket t a b → Later first b c → DrawsTicket u c d → t < u
    -- after the critical section of a ticket has ended, no pass has this ticket: each ticket that a
    -- pass has later is greater
    pub left_for_good : (a b c : TicketState T) (t u : ℕ) → TicketLockRule leads first a → LeavesTicket t a b → Later first b c → TicketLockRule leads first c → (i : ℕ) (k : LiveView T) → Has c i k → HasTicket u k.stage → t < u
