use Rattle.std.proofs.Common.{◌≡◌}
use Rattle.adjudicate.specs.Settling.{AreAccepted, IsIdle}
use Rattle.adjudicate.proofs.audit.serial.settle_all.Given as goal

abbrev pub invariant-offers : goal.invariant-offers
invariant-offers l = IsIdle l.gate × (l.gate.terms ≡ l.terms) × (l.claims.terms ≡ l.terms) × AreAccepted l.claims l.gate.journal × (l.adjudicator ≡ l.terms.plan)

-- the records that the reader has left
abbrev pub decreases-offers : goal.decreases-offers
decreases-offers l = l.claims.left
