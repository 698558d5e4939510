use Rattle.std.proofs.Common.{◌≡◌}
use Rattle.gate_calls.specs.Passes.{GoesOn}
use Rattle.crew.proofs.threads.fn.in_threads.scope.Given as goal

abbrev pub invariant-threads : goal.invariant-threads
invariant-threads g l =
    GoesOn (g.G.Gate.has_pass l.shared.now.gate.now) g.G.Gate.known l.initial.own l.own
    × ((g.G.Gate.known l.own).seen.terms ≡ l.shared.now.terms.now)
