use Rattle.std.proofs.Common.{◌≡◌, ◌+◌, take, min, length}
use Rattle.cutplan.specs.Check.{cells}
use Rattle.cutplan.specs.Numbered.{cell_limit}
use Rattle.cutplan.proofs.gap.cell_count.Given as goal

abbrev pub invariant-loop-regions : goal.invariant-loop-regions
invariant-loop-regions l = l.count ≡ min (length (cells (take l.regions-index l.columns))) (cell_limit + 1)
