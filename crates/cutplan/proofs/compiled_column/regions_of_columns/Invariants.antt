use Rattle.std.proofs.Common.{◌≡◌, take}
use Rattle.cutplan.specs.CompiledColumns.{regions_kept}
use Rattle.cutplan.proofs.compiled_column.regions_of_columns.Given as goal

abbrev pub invariant-loop-column : goal.invariant-loop-column
invariant-loop-column l = l.found ≡ regions_kept (take l.column-index l.columns)
