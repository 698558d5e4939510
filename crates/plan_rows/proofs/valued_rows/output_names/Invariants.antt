use Rattle.std.proofs.Common.{◌≡◌, map, take}
use Rattle.plan_rows.specs.ValuedRows.{output_names}
use Rattle.plan_rows.proofs.valued_rows.output_names.Given as goal

-- the names of the outputs of the tables so far
abbrev pub invariant-loop-table : goal.invariant-loop-table
invariant-loop-table l = map (λ n. n.now) l.names.items ≡ output_names (take l.table-index l.tables)
