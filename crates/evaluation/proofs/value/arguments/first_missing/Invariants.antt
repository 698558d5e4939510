use Rattle.evaluation.specs.Arguments.{IsReadyBelow}
use Rattle.evaluation.proofs.value.arguments.first_missing.Given as goal

-- each name so far that a table reads has a value
abbrev pub invariant-loop-place : goal.invariant-loop-place
invariant-loop-place l = IsReadyBelow l.place l.plan.tables l.inputs
