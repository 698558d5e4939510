use Rattle.csv.specs.Records.{fields_of}
use Rattle.plan_rows.proofs.Rows.{NoneSays}
use Rattle.plan_rows.proofs.lines.expects_faults.Given as goal

-- no field so far says anything of faults
abbrev pub invariant-loop-place : goal.invariant-loop-place
invariant-loop-place l = NoneSays l.place l.columns (fields_of l.row)
