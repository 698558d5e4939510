use Rattle.crew.specs.Accepting.{ArePast}
use Rattle.gate_calls.specs.Passes.{GoesOn}
use Rattle.crew.proofs.acceptor.end_all.Given as goal

abbrev pub invariant-providers : goal.invariant-providers
invariant-providers g l =
    GoesOn (g.G.Gate.has_pass l.shared.gate.now) g.G.Gate.known l.initial.pass l.pass × ArePast (g.G.Gate.known l.pass).seen l.place
