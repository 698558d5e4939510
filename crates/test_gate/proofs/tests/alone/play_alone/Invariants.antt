use Rattle.std.proofs.Common.{◌≡◌}
use Rattle.std.specs.Prelude.{IfSome}
use Rattle.test_gate.specs.Words.{IsAtWork}
use Rattle.test_gate.proofs.tests.alone.play_alone.Given as goal

abbrev pub invariant-loop-entry : goal.invariant-loop-entry
invariant-loop-entry g l = record {
  terms : l.gate.terms ≡ l.terms;
  one : IfSome l.jobs.one (IsAtWork l.gate);
  other : IfSome l.jobs.other (IsAtWork l.gate);
}
