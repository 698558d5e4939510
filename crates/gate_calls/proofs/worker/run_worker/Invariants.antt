use Rattle.std.proofs.Common.{◌≡◌}
use Rattle.std.specs.List.{All}
use Rattle.gate_calls.specs.Passes.{GoesOn}
use Rattle.gate_calls.specs.Sharing.{IsSettledIn}
use Rattle.gate_calls.proofs.worker.run_worker.Given as goal

abbrev pub invariant-loop : goal.invariant-loop
invariant-loop g l =
    (goal.iterator-loop g).can_next l.iterator' × (goal.iterator-loop g).is_finite l.iterator'
    × GoesOn (g.G.Gate.has_pass l.shared.gate.now) g.G.Gate.known l.initial.pass l.pass × ((g.G.Gate.known l.pass).seen.terms ≡ l.shared.terms.now) × (l.adjudicator ≡ l.shared.terms.now.plan)
    × All (IsSettledIn (g.G.Gate.known l.pass).seen) l.settled.items
