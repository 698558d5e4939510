use Rattle.std.proofs.Common.{take}
use Rattle.intake_csv.specs.Rows.{AreValues}
use Rattle.intake_csv.proofs.column_values.values_of_columns.Given as goal

abbrev pub invariant-loop-column : goal.invariant-loop-column
invariant-loop-column l = AreValues l.row (take l.column-index l.columns) l.values
