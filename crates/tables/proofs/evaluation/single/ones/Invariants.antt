use Rattle.std.proofs.Common.{◌≡◌, take}
use Rattle.tables.specs.HitPolicy.{ones}
use Rattle.tables.proofs.evaluation.single.ones.Given as goal

abbrev pub invariant-loop-value : goal.invariant-loop-value
invariant-loop-value l = l.answers ≡ ones (take l.value-index l.values)
