use Rattle.std.proofs.Common.{◌≡◌}
use Rattle.settlement.specs.Bindings.{values_given}
use Rattle.explanation.proofs.Binding.{filled}
use Rattle.explanation.proofs.given.inputs_of.Given as goal

-- the names before this place have their values
abbrev pub invariant-loop-place : goal.invariant-loop-place
invariant-loop-place l = l.inputs ≡ filled l.plan.names (values_given l.claim l.acc) l.place
