use Rattle.ordered_claims.specs.OrderedParts.{AreJoined}
use Rattle.crew.specs.Accepting.{IsAtClaim}
use Rattle.gate_calls.specs.Passes.{GoesOn}
use Rattle.crew.proofs.acceptor.run_acceptor.Given as goal

abbrev pub invariant-loop : goal.invariant-loop
invariant-loop g l =
    (goal.iterator-loop g).can_next l.iterator' × (goal.iterator-loop g).is_finite l.iterator'
    × GoesOn (g.G.Gate.has_pass l.shared.gate.now) g.G.Gate.known l.initial.pass l.pass × IsAtClaim l.shared.terms.now (g.G.Gate.known l.pass).seen l.queues
    × AreJoined l.queues l.readers
