use Rattle.std.proofs.Common.{take}
use Rattle.std.specs.List.{AllZip}
use Rattle.cutplan.specs.CompiledColumns.{AreCompiledColumns}
use Rattle.cutplan.proofs.compiled_column.compiled_tables.Given as goal

abbrev pub invariant-loop-table : goal.invariant-loop-table
invariant-loop-table l = AllZip (AreCompiledColumns l.plan) (take l.table-index l.tables) l.kept
