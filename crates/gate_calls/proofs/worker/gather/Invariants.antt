use Rattle.std.proofs.Common.{◌≡◌, length}
use Rattle.std.specs.List.{All}
use Rattle.gate_calls.specs.Passes.{GoesOn}
use Rattle.gate_calls.specs.Sharing.{IsInWork}
use Rattle.gate_calls.proofs.worker.gather.Given as goal

abbrev pub invariant-calls : goal.invariant-calls
invariant-calls g l =
    GoesOn (g.G.Gate.has_pass l.shared.gate.now) g.G.Gate.known l.initial.pass l.pass
    × ((g.G.Gate.known l.pass).seen.terms ≡ l.shared.terms.now) × All (IsInWork (g.G.Gate.known l.pass).seen) l.jobs.items × (length l.jobs.items ≡ l.call)
