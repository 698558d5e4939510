use Rattle.crew.specs.Accepting.{IsBetween}
use Rattle.gate_calls.specs.Passes.{GoesOn}
use Rattle.crew.proofs.acceptor.offer_turns.Given as goal

abbrev pub invariant-turns : goal.invariant-turns
invariant-turns g l =
    GoesOn (g.G.Gate.has_pass l.shared.gate.now) g.G.Gate.known l.initial.pass l.pass
    × IsBetween l.shared.terms.now (g.G.Gate.known l.pass).seen l.initial.claims l.claims

-- the number of claims that are read and not given
abbrev pub decreases-turns : goal.decreases-turns
decreases-turns g l = l.claims.left
