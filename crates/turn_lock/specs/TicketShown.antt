-- The properties of ticket lock passes that contracts state.
use Rattle.std.specs.Prelude.{◌≡◌, ◌⊎◌, ℕ, ◌<◌}
use Rattle.turn_lock.specs.declared.ticket.view.Stage.TheVariants.{Idle, Looked as AtLooked, Waiting as AtWaiting, Holding as AtHolding}
use Rattle.turn_lock.specs.declared.ticket.view.LiveView.{LiveView}
use Rattle.turn_lock.specs.declared.ticket.pass.Pass.{Pass}
use Rattle.turn_lock.specs.declared.ticket.pass.Looked.{Looked}
use Rattle.turn_lock.specs.declared.ticket.pass.Drawn.{Drawn}
use Rattle.turn_lock.specs.declared.ticket.pass.Holding.{Holding}
use Rattle.turn_lock.specs.declared.ticket.lock.TicketLock.{TicketLock}
use Rattle.turn_lock.specs.declared.ticket.fault.DrawFault.{DrawFault}
use Rattle.turn_lock.specs.declared.ticket.fault.DrawFault.TheVariants.{Worn, Raced}
use Rattle.turn_lock.specs.Ticket.{known, last_word, idle_at, met}

module _ {T : Type 0} where
  -- the next ticket that the pass has looked at and may draw
  abbrev pub looked_next : Looked T → ℕ
  looked_next looked = looked.next

  -- the ticket that the pass has drawn
  abbrev pub drawn_ticket : Drawn T → ℕ
  drawn_ticket drawn = drawn.ticket

  -- the ticket of the pass's critical section
  abbrev pub held_ticket : Holding T → ℕ
  held_ticket holding = holding.section

  -- what a pass has seen, and its tally, in each of its states
  abbrev pub pass_knows : Pass T → LiveView T
  pass_knows pass = known pass.seat.me.0 Idle pass.idle.1

  abbrev pub looked_knows : Looked T → LiveView T
  looked_knows looked = known looked.seat.me.0 AtLooked looked.looked.1

  abbrev pub drawn_knows : Drawn T → LiveView T
  drawn_knows drawn = known drawn.seat.me.0 (AtWaiting drawn.ticket) drawn.waiting.1

  abbrev pub holding_knows : Holding T → LiveView T
  holding_knows holding = known holding.seat.me.0 (AtHolding holding.section) holding.holds.1

  -- the pass has seen that no ticket is left
  abbrev pub IsWornPass : Pass T → Type 0
  IsWornPass pass = (pass_knows pass).next ≡ last_word

  -- a draw was refused because no ticket is left or another pass drew it; the pass has seen this
  -- next ticket, and nothing else of its knowledge changes
  abbrev pub IsRefused : LiveView T → DrawFault → LiveView T → Type 0
  IsRefused k Worn l = l ≡ idle_at k last_word
  IsRefused k (Raced n) l = (k.next < n) × (l ≡ idle_at k n)

-- two passes have met: of their two values one leads to the other, and the knowledge after `meet`
-- has the later one
abbrev pub HasMet : {T : Type 0} → (T → T → Type 0) → LiveView T → LiveView T → LiveView T → Type 0
HasMet leads k l m = (leads l.seen k.seen × (m ≡ met k l k.seen)) ⊎ (leads k.seen l.seen × (m ≡ met k l l.seen))

-- the pass, in each of its states, belongs to the lock: both are of one table
abbrev pub IsPassOf : {T : Type 0} → TicketLock T → Pass T → Type 0
IsPassOf lock pass = pass.seat.table_id ≡ lock.table.shared.table_id

abbrev pub IsLookedOf : {T : Type 0} → TicketLock T → Looked T → Type 0
IsLookedOf lock looked = looked.seat.table_id ≡ lock.table.shared.table_id

abbrev pub IsDrawnOf : {T : Type 0} → TicketLock T → Drawn T → Type 0
IsDrawnOf lock drawn = drawn.seat.table_id ≡ lock.table.shared.table_id

abbrev pub IsHoldingOf : {T : Type 0} → TicketLock T → Holding T → Type 0
IsHoldingOf lock holding = holding.seat.table_id ≡ lock.table.shared.table_id
