use Rattle.std.proofs.Common.{◌≡◌, ◌≤◌, ◌+◌, length}
use Rattle.gate_calls.specs.Passes.{GoesOn}
use Rattle.crew.specs.Reading.{IsAtRecord}
use Rattle.crew.proofs.intake.offer_turn.Given as goal

abbrev pub invariant-records : goal.invariant-records
invariant-records g l =
    GoesOn (g.G.Gate.has_pass l.shared.gate.now) g.G.Gate.known l.initial.pass l.pass
    × IsAtRecord l.shared.terms.now (g.G.Gate.known l.pass).seen l.intake × (l.intake.provider ≡ l.initial.intake.provider)
    × (length l.intake.rows.records + l.record ≤ length l.initial.intake.rows.records)
