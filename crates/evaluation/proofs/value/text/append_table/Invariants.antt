use Rattle.std.proofs.Common.{◌≡◌, ◌++◌, take}
use Rattle.evaluation.specs.ValueText.{table_lines}
use Rattle.evaluation.proofs.value.text.append_table.Given as goal

-- the lines of the outputs so far
abbrev pub invariant-loop-output : goal.invariant-loop-output
invariant-loop-output l = l.text.items ≡ l.initial.text.items ++ table_lines l.values (take l.output-index l.outputs)
