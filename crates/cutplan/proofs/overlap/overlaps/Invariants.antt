use Rattle.std.proofs.Common.{◌≡◌, ◌-◌, filter}
use Rattle.std.specs.List.{flat_map, range_with_len}
use Rattle.cutplan.specs.Check.{pairs_with}
use Rattle.cutplan.specs.CheckSteps.{share_all}
use Rattle.cutplan.specs.CompiledColumns.{masks_kept}
use Rattle.cutplan.proofs.overlap.overlaps.Given as goal

abbrev pub invariant-rules : goal.invariant-rules
invariant-rules l = l.found.items ≡ filter (λ pair. share_all (masks_kept l.columns) (pair.0 - 1) (pair.1 - 1)) (flat_map (pairs_with l.count) (range_with_len 1 l.first))
