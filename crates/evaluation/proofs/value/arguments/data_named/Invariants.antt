use Rattle.std.proofs.Common.{◌≡◌, ℕ, ◌<◌, slice_get, Some}
use Rattle.dtable.specs.Scope.{data_names}
use Rattle.evaluation.proofs.value.arguments.data_named.Given as goal

-- no input data so far has the name
abbrev pub invariant-loop-place : goal.invariant-loop-place
invariant-loop-place l = (k : ℕ) → k < l.place → slice_get (data_names l.names) k ≡ Some l.name → ⊥
