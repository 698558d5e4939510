use Rattle.std.proofs.Common.{◌≡◌}
use Rattle.turn_lock.proofs.spin.lock.SpinLock.win.Given as goal

-- the pass has not changed
abbrev pub invariant-loop : goal.invariant-loop
invariant-loop g l = (l.seat.table_id ≡ l.initial.seat.table_id) × (l.seat.me ≡ l.initial.seat.me)
