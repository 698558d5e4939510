use Rattle.std.proofs.Common.{take}
use Rattle.std.specs.List.{AllZip}
use Rattle.csv.specs.Records.{fields_of}
use Rattle.plan_rows.specs.Readable.{IsReadable}
use Rattle.plan_rows.proofs.readable.first_unreadable.Given as goal

-- the fields so far can be read
abbrev pub invariant-loop-place : goal.invariant-loop-place
invariant-loop-place l = AllZip (IsReadable l.plan) (take l.place l.columns) (take l.place (fields_of l.row))
