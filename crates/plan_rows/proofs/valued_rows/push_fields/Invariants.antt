use Rattle.std.proofs.Common.{◌≡◌, ◌++◌, take}
use Rattle.csv.specs.Records.{fields_of}
use Rattle.plan_rows.proofs.valued_rows.push_fields.Given as goal

-- the fields so far
abbrev pub invariant-loop-place : goal.invariant-loop-place
invariant-loop-place l = l.line ≡ l.fn.line ++ take l.place (fields_of l.row)
