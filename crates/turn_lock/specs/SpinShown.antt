-- The properties of spin lock passes that contracts state.
use Rattle.std.specs.Prelude.{◌≡◌, ℕ}
use Rattle.turn_lock.specs.declared.spin.pass.SpinPass.{SpinPass}
use Rattle.turn_lock.specs.declared.spin.pass.SpinHolding.{SpinHolding}
use Rattle.turn_lock.specs.declared.spin.lock.SpinLock.{SpinLock}

module _ {T : Type 0} where
  -- the last value that the pass has seen
  abbrev pub pass_seen : SpinPass T → T
  pass_seen pass = pass.seat.me.0.seen

  -- the number of critical sections that the pass has ended
  abbrev pub pass_tally : SpinPass T → ℕ
  pass_tally pass = pass.seat.me.0.ended

  -- the value that the last critical section of the pass found
  abbrev pub pass_last : SpinPass T → T
  pass_last pass = pass.seat.me.0.last

  -- the value that the critical section found
  abbrev pub holder_found : SpinHolding T → T
  holder_found holder = holder.seat.me.0.seen

  -- the number of critical sections that the pass had ended before this one
  abbrev pub holder_tally : SpinHolding T → ℕ
  holder_tally holder = holder.seat.me.0.ended

-- the pass or holder belongs to the lock: both are of one table
abbrev pub IsPassOf : {T : Type 0} → SpinLock T → SpinPass T → Type 0
IsPassOf lock pass = pass.seat.table_id ≡ lock.table.shared.table_id

abbrev pub IsHolderOf : {T : Type 0} → SpinLock T → SpinHolding T → Type 0
IsHolderOf lock holder = holder.seat.table_id ≡ lock.table.shared.table_id
