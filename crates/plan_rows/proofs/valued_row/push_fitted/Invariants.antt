use Rattle.std.proofs.Common.{◌≡◌, ◌++◌}
use Rattle.csv.specs.Records.{fields_of}
use Rattle.plan_rows.specs.ValuedRows.{fitted}
use Rattle.plan_rows.proofs.valued_row.push_fitted.Given as goal

-- the fields so far
abbrev pub invariant-loop-place : goal.invariant-loop-place
invariant-loop-place l = l.line ≡ l.fn.line ++ fitted l.place (fields_of l.row)
