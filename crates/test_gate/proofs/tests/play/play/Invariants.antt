use Rattle.test_gate.specs.Words.{IsSeated}
use Rattle.test_gate.proofs.tests.play.play.Given as goal

abbrev pub invariant-loop-entry : goal.invariant-loop-entry
invariant-loop-entry g l = record {
  one : IsSeated (g.G.Gate.has_pass l.gate) g.G.Gate.known l.terms l.seats.one.pass l.seats.one.job;
  other : IsSeated (g.G.Gate.has_pass l.gate) g.G.Gate.known l.terms l.seats.other.pass l.seats.other.job;
}
