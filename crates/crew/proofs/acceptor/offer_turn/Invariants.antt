use Rattle.std.proofs.Common.{◌≡◌, ◌≤◌, ◌+◌}
use Rattle.crew.specs.Accepting.{IsAtClaim}
use Rattle.gate_calls.specs.Passes.{GoesOn}
use Rattle.crew.proofs.acceptor.offer_turn.Given as goal

abbrev pub invariant-offers : goal.invariant-offers
invariant-offers g l =
    GoesOn (g.G.Gate.has_pass l.shared.gate.now) g.G.Gate.known l.initial.pass l.pass
    × IsAtClaim l.shared.terms.now (g.G.Gate.known l.pass).seen l.claims × (l.claims.left + l.number ≤ l.initial.claims.left) × (l.claims.read ≡ l.initial.claims.read)
