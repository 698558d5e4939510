use Rattle.std.proofs.Common.{◌≡◌, ◌+◌, take, length, min}
use Rattle.cutplan.specs.Check.{cells}
use Rattle.cutplan.specs.CompiledColumns.{regions_kept}
use Rattle.cutplan.specs.Numbered.{cell_limit}
use Rattle.cutplan.proofs.gap.count_cells.Given as goal

abbrev pub invariant-loop-column : goal.invariant-loop-column
invariant-loop-column l = l.count ≡ min (length (cells (regions_kept (take l.column-index l.columns)))) (cell_limit + 1)
