use Rattle.std.proofs.Common.{take}
use Rattle.std.specs.List.{AllZip}
use Rattle.csv.specs.Records.{fields_of}
use Rattle.plan_rows.specs.Columns.{AreApart, IsColumn}
use Rattle.plan_rows.proofs.columns.list_columns.Given as goal

-- the columns of the names so far
abbrev pub invariant-loop-place : goal.invariant-loop-place
invariant-loop-place l = AllZip (IsColumn l.plan) (take l.place (fields_of l.header)) l.columns.items × AreApart l.columns.items
