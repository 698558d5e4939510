-- The kinds of atomic steps of the ticket lock. A step by one pass takes what the table has of the
-- pass (me) to what it has afterwards (me'), and finds a word.
use Rattle.std.specs.Prelude.{◌≡◌, ◌≢◌, ◌⊎◌, ℕ, ◌<◌, ◌≤◌, [], ◌∷◌, Option, Some}
use Rattle.atomic_table.specs.Table.{Step}
use Rattle.turn_lock.specs.declared.ticket.view.Stage.TheVariants.{Waiting, Holding}
use Rattle.turn_lock.specs.declared.ticket.view.LiveView.{LiveView}
use Rattle.turn_lock.specs.declared.ticket.view.TicketView.TheVariants.{Live}
use Rattle.turn_lock.specs.Ticket.{TicketSeat, last_word, idle_at, looked_at, waiting_for, in_section, after_section, seen_alone}

module _ {T : Type 0} where
  -- look: an idle pass loads the next ticket, which is at least the one that it has seen; if no
  -- ticket is left, the pass stays idle
  abbrev pub Looks : Step (Option T) → TicketSeat T → ℕ → TicketSeat T → Type 0
  Looks st me word me' =
      (k : LiveView T) × (me.0 ≡ Live k) × (k.next ≤ word) × (word ≤ last_word)
      × (word ≢ last_word → me' ≡ (Live (looked_at k word), me.1))
      × (word ≡ last_word → me' ≡ (Live (idle_at k word), me.1))

  -- draw: the next ticket is the one that the pass has looked at, and the pass has drawn it; or it
  -- is a greater one, and the pass is idle
  abbrev pub Draws : Step (Option T) → TicketSeat T → ℕ → TicketSeat T → Type 0
  Draws st me word me' =
      (k : LiveView T) × (me.0 ≡ Live k)
      × (word ≡ k.next → me' ≡ (Live (waiting_for k word), me.1))
      × (word ≢ k.next → (k.next < word) × (me' ≡ (Live (idle_at k word), me.1)))

  -- the critical section begins: the pass receives the slot, with a value to which everything that
  -- it has seen leads
  abbrev pub Begins : (T → T → Type 0) → ℕ → TicketSeat T → TicketSeat T → Type 0
  Begins leads ticket me me' =
      (k : LiveView T) × (value : T) × (me.0 ≡ Live k) × leads k.seen value
      × (me' ≡ (Live (in_section k ticket value), (0, Some value) ∷ []))

  -- serve: a waiting pass loads the served ticket; if it is the pass's own, the critical section
  -- begins, and if it is an earlier one, nothing changes
  abbrev pub Serves : (T → T → Type 0) → Step (Option T) → TicketSeat T → ℕ → TicketSeat T → Type 0
  Serves leads st me word me' =
      (k : LiveView T) × (ticket : ℕ) × (me.0 ≡ Live k) × (k.stage ≡ Waiting ticket) × (word ≤ ticket)
      × (word ≡ ticket → Begins leads ticket me me')
      × (word ≢ ticket → me' ≡ me)

  -- settle: of the two values that a pass has seen, one leads to the other, and the pass keeps the
  -- later one; it has seen no next ticket greater than the last word
  abbrev pub Settles : (T → T → Type 0) → Step (Option T) → TicketSeat T → ℕ → TicketSeat T → Type 0
  Settles leads st me word me' =
      (k : LiveView T) × (me.0 ≡ Live k) × (k.next ≤ last_word)
      × ((leads k.also k.seen × (me' ≡ (Live (seen_alone k k.seen), me.1))) ⊎ (leads k.seen k.also × (me' ≡ (Live (seen_alone k k.also), me.1))))

  -- leave: the pass increments the served ticket, and the slot goes home with a value to which the
  -- value found leads
  abbrev pub Leaves : (T → T → Type 0) → Step (Option T) → TicketSeat T → ℕ → TicketSeat T → Type 0
  Leaves leads st me word me' =
      (k : LiveView T) × (value : T) × (me.0 ≡ Live k) × (k.stage ≡ Holding word) × (me.1 ≡ (0, Some value) ∷ []) × leads k.seen value
      × (me' ≡ (Live (after_section k word value), []))

  -- take and put: in its critical section the pass takes the value out of its slot or puts one into
  -- it; no word, no slot at home and no view changes
  abbrev pub Exchanges : TicketSeat T → Option T → TicketSeat T → Type 0
  Exchanges me new me' = (old : Option T) × (me.1 ≡ (0, old) ∷ []) × (me' ≡ (me.0, (0, new) ∷ []))
