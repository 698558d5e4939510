-- The laws of the locks: each kind of step preserves the rule of its lock, whatever other passes do
-- between two steps of one pass. `Allows holds slots id me word f kind` says: in each state that
-- satisfies the rule, if the table has the pass id as me, then the word may become f of its old
-- value such that the pass goes on as the kind of step says and the rule holds again. The moves
-- that read or write the slot while a pass has it change no word, no slot at home and no view.
use Rattle.std.specs.Prelude.{◌≡◌, ◌<◌, ◌≤◌, ◌^◌, ◌%◌, ℕ, ◌+◌, eqb, false, true, [], ◌∷◌, slice_index, Option, Some}
use mathlib.Core.Option.{some, none}
use lib.ListN.{get_elem?}
use prog.Atomic.{either}
use Rattle.atomic_table.specs.Table.{opening, Step, step, Allows, Splits, Joins}
use Rattle.turn_lock.specs.declared.spin.view.SpinView.{SpinView}
use Rattle.turn_lock.specs.declared.ticket.view.Stage.TheVariants.{Idle, Looked, Waiting, Holding}
use Rattle.turn_lock.specs.declared.ticket.view.LiveView.{LiveView}
use Rattle.turn_lock.specs.declared.ticket.view.TicketView.{TicketView}
use Rattle.turn_lock.specs.declared.ticket.view.TicketView.TheVariants.{Spent, Live}
use Rattle.turn_lock.specs.Spin as spin
use Rattle.turn_lock.specs.Ticket.{TicketState, TicketSeat, HasTicket, Has, WordsRule, ValuesRule, TicketLockRule, last_word, newcomer, beside, stage_of, next_of, known}
use Rattle.turn_lock.specs.Steps.{Looks, Draws, Serves, Settles, Leaves, Exchanges}

module _ {T : Type 0} (leads : T → T → Type 0) where
  -- the steps of the spin lock preserve its rule
  pub record SpinStepsKeepRule : Type 0 where
    -- in a new lock the word is 0, and the slot is at home with the value
    pub opens : (value : T) → spin.SpinLockRule leads (opening (0 ∷ []) (Some value ∷ []) (spin.newcomer value))
    -- a pass outside its critical sections is split in two
    pub splits : (id : ℕ) (v : SpinView T) → v.holds ≡ false → Splits (spin.SpinLockRule leads) id v v v
    -- a pass outside its critical sections exchanges 0 by 1
    pub takes : (slots id : ℕ) (me : spin.SpinSeat T) → spin.IsIdle me
        → Allows (spin.SpinLockRule leads) slots id me 0 (λ word. either (eqb word 0) 1 word) (spin.Takes leads (step slots 0 0 1 none) me)
    -- a pass in its critical section, which has put a value into its slot, stores 0
    pub frees : (slots id : ℕ) (me : spin.SpinSeat T) (value : T) → me.0.holds ≡ true → me.1 ≡ (0, Some value) ∷ [] → leads me.0.seen value
        → Allows (spin.SpinLockRule leads) slots id me 0 (λ _. 0) (λ _. spin.Frees leads (step slots 0 0 0 none) me 0)

  -- the consequences of the rule of the spin lock in any state
  pub record SpinRuleSays : Type 0 where
    -- at most one pass is in a critical section
    pub one_holds : (s : spin.SpinState T) → spin.SpinLockRule leads s → (i j : ℕ) (v w : SpinView T) → get_elem? s.views i ≡ some v → get_elem? s.views j ≡ some w → v.holds ≡ true → w.holds ≡ true → i ≡ j
    -- every value that a pass has seen leads to one value, which the pass in a critical section has
    -- found
    pub one_value : (s : spin.SpinState T) → spin.SpinLockRule leads s → (current : T) × ((i : ℕ) (v : SpinView T) → get_elem? s.views i ≡ some v → leads v.seen current × (v.holds ≡ true → v.seen ≡ current))

  -- the consequences of the rule on words for any two passes of the ticket lock
  pub record WordsSay (first : ℕ) : Type 0 where
    -- at most one pass is in a critical section
    pub one_holds : (s : TicketState T) → WordsRule first s → (i j : ℕ) (k l : LiveView T) (t u : ℕ) → Has s i k → Has s j l → k.stage ≡ Holding t → l.stage ≡ Holding u → i ≡ j
    -- no two passes have the same ticket
    pub one_ticket : (s : TicketState T) → WordsRule first s → (i j : ℕ) (k l : LiveView T) (t : ℕ) → Has s i k → Has s j l → HasTicket t k.stage → HasTicket t l.stage → i ≡ j
    -- if a pass has seen that no ticket is left, then no ticket is left
    pub worn_for_good : (s : TicketState T) → WordsRule first s → (i : ℕ) (k : LiveView T) → Has s i k → k.next ≡ last_word → slice_index s.words 0 ≡ last_word
    -- no pass has seen a next ticket greater than the last word; so a pass that has seen the last
    -- word, and forgets nothing, keeps it
    pub none_beyond : (s : TicketState T) → WordsRule first s → (i : ℕ) (k : LiveView T) → Has s i k → k.next ≤ last_word

  -- the consequences of the rule on values
  pub record ValuesSay : Type 0 where
    -- every value that a pass has seen leads to one value, which the pass in a critical section has
    -- found
    pub one_value : (s : TicketState T) → ValuesRule leads s → (current : T) × ((i : ℕ) (k : LiveView T) → Has s i k → leads k.seen current × ((t : ℕ) → k.stage ≡ Holding t → k.seen ≡ current))

  pub record TicketRuleSays (first : ℕ) : Type 0 where
    pub words : WordsSay first
    pub values : ValuesSay

  -- the pass forgets nothing: the value that it had seen leads to the one that it has seen now, and
  -- the next ticket is at least the old one
  abbrev pub Remembers : TicketSeat T → TicketSeat T → Type 0
  Remembers me me' = (k l : LiveView T) → me.0 ≡ Live k → me'.0 ≡ Live l → leads k.seen l.seen × (k.next ≤ l.next)

  -- no step of the ticket lock forgets what its pass has seen
  pub record TicketStepsForgetNothing : Type 0 where
    -- a pass joined of two has both values, and a next ticket that is at least that of either
    pub joins : (k l m : LiveView T) → beside (Live k) (Live l) ≡ Live m → leads k.seen m.seen × leads l.seen m.also × (k.next ≤ m.next) × (l.next ≤ m.next)
    -- both values lead to the one that the pass keeps
    pub settles : (st : Step (Option T)) (me me' : TicketSeat T) (word : ℕ) → Settles leads st me word me' → (k l : LiveView T) → me.0 ≡ Live k → me'.0 ≡ Live l → leads k.seen l.seen × leads k.also l.seen × (k.next ≤ l.next)
    pub looks : (st : Step (Option T)) (me me' : TicketSeat T) (word : ℕ) → Looks st me word me' → Remembers me me'
    pub draws : (st : Step (Option T)) (me me' : TicketSeat T) (word : ℕ) → Draws st me word me' → Remembers me me'
    pub serves : (st : Step (Option T)) (me me' : TicketSeat T) (word : ℕ) → Serves leads st me word me' → Remembers me me'
    -- the pass is in its critical section, where it has seen no next ticket greater than the one
    -- after its own
    pub leaves : (st : Step (Option T)) (me me' : TicketSeat T) (word : ℕ) → next_of me.0 ≡ word + 1 → Leaves leads st me word me' → Remembers me me'
    pub exchanges : (me me' : TicketSeat T) (new : Option T) → Exchanges me new me' → Remembers me me'

  -- the pass has ended the same number of critical sections as before, and the last of them found
  -- the same value
  abbrev pub HasSameTally : TicketSeat T → TicketSeat T → Type 0
  HasSameTally me me' = (k l : LiveView T) → me.0 ≡ Live k → me'.0 ≡ Live l → (l.ended ≡ k.ended) × (l.last ≡ k.last)

  -- only the end of a critical section changes the tally of its pass: it is one more afterwards,
  -- and the value found is the last one
  pub record TicketStepsKeepTally : Type 0 where
    -- a pass joined of two has the first one's tally, and the second one's is lost
    pub joins : (k l m : LiveView T) → beside (Live k) (Live l) ≡ Live m → (m.ended ≡ k.ended) × (m.last ≡ k.last)
    pub settles : (st : Step (Option T)) (me me' : TicketSeat T) (word : ℕ) → Settles leads st me word me' → HasSameTally me me'
    pub looks : (st : Step (Option T)) (me me' : TicketSeat T) (word : ℕ) → Looks st me word me' → HasSameTally me me'
    pub draws : (st : Step (Option T)) (me me' : TicketSeat T) (word : ℕ) → Draws st me word me' → HasSameTally me me'
    pub serves : (st : Step (Option T)) (me me' : TicketSeat T) (word : ℕ) → Serves leads st me word me' → HasSameTally me me'
    pub leaves : (st : Step (Option T)) (me me' : TicketSeat T) (word : ℕ) → Leaves leads st me word me' → (k l : LiveView T) → me.0 ≡ Live k → me'.0 ≡ Live l → (l.ended ≡ k.ended + 1) × (l.last ≡ k.seen)
    pub exchanges : (me me' : TicketSeat T) (new : Option T) → Exchanges me new me' → HasSameTally me me'

  -- the steps of the ticket lock preserve both parts of its rule, on words and on values
  pub record TicketStepsKeepRule (first : ℕ) : Type 0 where
    -- in a new lock both words are the first ticket, and the slot is at home with the value
    pub opens : (value : T) → TicketLockRule leads first (opening (first ∷ first ∷ []) (Some value ∷ []) (newcomer first value))
    -- an idle pass is split in two
    pub splits : (id : ℕ) (v : TicketView T) → stage_of v ≡ Some Idle → Splits (TicketLockRule leads first) id v v v
    -- two idle passes are joined into one, which has seen what both have seen; the other one is
    -- spent
    pub joins : (id : ℕ) (v : TicketView T) (other : ℕ) (w : TicketView T) → stage_of v ≡ Some Idle → stage_of w ≡ Some Idle → Joins (TicketLockRule leads first) id v other w (beside v w) Spent
    -- an idle pass that has seen two values loads a word
    pub settles : (slots id : ℕ) (me : TicketSeat T) → stage_of me.0 ≡ Some Idle → Allows (TicketLockRule leads first) slots id me 0 (λ word. word) (Settles leads (step slots 0 0 0 none) me)
    -- an idle pass loads the next ticket
    pub looks : (slots id : ℕ) (me : TicketSeat T) → stage_of me.0 ≡ Some Idle → Allows (TicketLockRule leads first) slots id me 0 (λ word. word) (Looks (step slots 0 0 0 none) me)
    -- a pass that has looked exchanges the next ticket that it saw by the following one
    pub draws : (slots id : ℕ) (me : TicketSeat T) (n : ℕ) → stage_of me.0 ≡ Some Looked → next_of me.0 ≡ n → n < last_word
        → Allows (TicketLockRule leads first) slots id me 0 (λ word. either (eqb word n) (n + 1) word) (Draws (step slots 0 n (n + 1) none) me)
    -- a waiting pass loads the served ticket
    pub serves : (slots id : ℕ) (me : TicketSeat T) (ticket : ℕ) → me.1 ≡ [] → stage_of me.0 ≡ Some (Waiting ticket)
        → Allows (TicketLockRule leads first) slots id me 1 (λ word. word) (Serves leads (step slots 1 0 0 none) me)
    -- a pass in its critical section, which has put a value into its slot, increments the served
    -- ticket
    pub leaves : (slots id : ℕ) (me : TicketSeat T) (ticket : ℕ) (value : T) (is : stage_of me.0 ≡ Some (Holding ticket)) → me.1 ≡ (0, Some value) ∷ []
        → leads (known me.0 (Holding ticket) is).seen value → Allows (TicketLockRule leads first) slots id me 1 (λ word. (word + 1) % 2 ^ 64) (Leaves leads (step slots 1 1 0 none) me)
    -- a pass in its critical section takes the value out of its slot or puts one into it: the state
    -- does not change, and still has the pass
    pub exchanges : (s : TicketState T) (id : ℕ) (me me' : TicketSeat T) (new : Option T) → TicketLockRule leads first s → get_elem? s.views id ≡ some me.0 → Exchanges me new me' → TicketLockRule leads first s × (get_elem? s.views id ≡ some me'.0)
