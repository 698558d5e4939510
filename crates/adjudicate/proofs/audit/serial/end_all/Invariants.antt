use Rattle.std.proofs.Common.{◌≡◌, ◌≤◌, ℕ, true}
use Rattle.adjudicate.specs.Settling.{AreAccepted, IsIdle, is_past}
use Rattle.adjudicate.proofs.audit.serial.end_all.Given as goal

-- the providers so far are past
abbrev pub invariant-loop-place : goal.invariant-loop-place
invariant-loop-place l =
    IsIdle l.gate × (l.gate.terms ≡ l.terms) × AreAccepted l.claims l.gate.journal
    × ((provider : ℕ) → 1 ≤ provider → provider ≤ l.place → is_past l.gate provider ≡ true)
