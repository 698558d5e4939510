use Rattle.std.proofs.Common.{◌≡◌}
use Rattle.gate_calls.specs.Passes.{GoesOn}
use Rattle.gate_calls.specs.Sharing.{IsSettledIn}
use Rattle.gate_calls.proofs.worker.record.Given as goal

abbrev pub invariant-tries : goal.invariant-tries
invariant-tries g l =
    GoesOn (g.G.Gate.has_pass l.shared.gate.now) g.G.Gate.known l.initial.pass l.pass
    × ((g.G.Gate.known l.pass).seen.terms ≡ l.shared.terms.now) × (l.job ≡ l.initial.job) × (l.outcome ≡ l.initial.outcome)
    × IsSettledIn (g.G.Gate.known l.pass).seen (record { job = l.job; outcome = l.outcome })
