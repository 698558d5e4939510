use Rattle.std.proofs.Common.{◌≡◌, [], get_or, map, take}
use Rattle.cutplan.specs.Check.{cells}
use Rattle.cutplan.specs.CompiledColumns.{regions_kept}
use Rattle.cutplan.proofs.gap.cells_at.Given as goal

abbrev pub invariant-loop-place : goal.invariant-loop-place
invariant-loop-place l = l.found.items ≡ map (λ place. get_or (cells (regions_kept l.columns)) place []) (take l.place-index l.places)
