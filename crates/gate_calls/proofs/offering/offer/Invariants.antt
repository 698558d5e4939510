use Rattle.std.proofs.Common.{◌≡◌}
use Rattle.gate_calls.specs.Passes.{GoesOn}
use Rattle.gate_calls.specs.Sharing.{HasAccepted}
use Rattle.gate_calls.proofs.offering.offer.Given as goal

abbrev pub invariant-tries : goal.invariant-tries
invariant-tries g l =
    GoesOn (g.G.Gate.has_pass l.shared.gate.now) g.G.Gate.known l.initial.pass l.pass
    × ((g.G.Gate.known l.pass).seen.terms ≡ l.shared.terms.now) × (l.offer ≡ l.initial.offer) × HasAccepted (g.G.Gate.known l.pass).seen l.initial.offer.provider l.initial.offer.place
