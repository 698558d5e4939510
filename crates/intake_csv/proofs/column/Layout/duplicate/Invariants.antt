use Rattle.std.proofs.Common.{◌≡◌, take}
use Rattle.intake_csv.proofs.column.Layout.duplicate.Given as goal

abbrev pub invariant-loop-column : goal.invariant-loop-column
invariant-loop-column l = l.columns ≡ take l.column-index l.self.columns
