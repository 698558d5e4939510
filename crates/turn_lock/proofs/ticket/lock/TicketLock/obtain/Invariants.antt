use Rattle.std.proofs.Common.{◌≡◌, ◌≤◌}
use Rattle.turn_lock.specs.Ticket.{idle_at}
use Rattle.turn_lock.specs.TicketShown.{IsPassOf, pass_knows}
use Rattle.turn_lock.proofs.ticket.lock.TicketLock.obtain.Given as goal

-- the pass has seen a next ticket that is at least the old one, and the rest of its knowledge has
-- not changed
abbrev pub invariant-loop : goal.invariant-loop
invariant-loop g l =
    IsPassOf l.self l.pass
    × (idle_at (pass_knows l.pass) 0 ≡ idle_at (pass_knows l.initial.pass) 0)
    × ((pass_knows l.initial.pass).next ≤ (pass_knows l.pass).next)
