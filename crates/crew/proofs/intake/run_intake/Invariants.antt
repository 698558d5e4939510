use Rattle.std.proofs.Common.{◌≡◌, length}
use Rattle.gate_calls.specs.Passes.{GoesOn}
use Rattle.crew.specs.Reading.{IsAtRecord}
use Rattle.crew.proofs.intake.run_intake.Given as goal

abbrev pub invariant-turns : goal.invariant-turns
invariant-turns g l =
    GoesOn (g.G.Gate.has_pass l.shared.gate.now) g.G.Gate.known l.initial.pass l.pass
    × IsAtRecord l.shared.terms.now (g.G.Gate.known l.pass).seen l.intake × (l.intake.provider ≡ l.provider)

-- the number of records that are left
abbrev pub decreases-turns : goal.decreases-turns
decreases-turns g l = length l.intake.rows.records
