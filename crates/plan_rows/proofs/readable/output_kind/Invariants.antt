use Rattle.std.proofs.Common.{◌≡◌, drop}
use Rattle.plan_rows.specs.Readable.{output_kind}
use Rattle.plan_rows.proofs.readable.output_kind.Given as goal

-- the first output of the tables left with the name is the first of all
abbrev pub invariant-loop-table : goal.invariant-loop-table
invariant-loop-table l = output_kind (drop l.table-index l.tables) l.name ≡ output_kind l.tables l.name
