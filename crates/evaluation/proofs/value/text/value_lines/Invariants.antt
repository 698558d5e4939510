use Rattle.std.proofs.Common.{◌≡◌, take}
use Rattle.evaluation.specs.ValueText.{value_lines}
use Rattle.evaluation.proofs.value.text.value_lines.Given as goal

-- the lines of the tables so far
abbrev pub invariant-loop-table : goal.invariant-loop-table
invariant-loop-table l = l.text.items ≡ value_lines l.values (take l.table-index l.tables)
