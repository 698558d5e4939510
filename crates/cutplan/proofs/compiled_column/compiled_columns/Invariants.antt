use Rattle.cutplan.proofs.Compiling.{AreFirstKept}
use Rattle.cutplan.proofs.compiled_column.compiled_columns.Given as goal

abbrev pub invariant-loop-place : goal.invariant-loop-place
invariant-loop-place l = AreFirstKept l.plan l.table l.place l.kept
