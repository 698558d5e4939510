use Rattle.std.proofs.Common.{◌≡◌, take}
use Rattle.std.specs.List.{filter_map}
use Rattle.tables.specs.HitPolicy.{ones}
use Rattle.tables.proofs.evaluation.single.no_match_value.Given as goal

abbrev pub invariant-loop-output : goal.invariant-loop-output
invariant-loop-output l = l.answers ≡ ones (filter_map (λ o. o.fallback) (take l.output-index l.outputs))
