use Rattle.std.proofs.Common.{◌≡◌, ◌++◌, take}
use Rattle.explanation.specs.Tables.{read_facts}
use Rattle.explanation.proofs.table.add_values_read.Given as goal

abbrev pub invariant-loop-input : goal.invariant-loop-input
invariant-loop-input l = l.facts ≡ l.initial.facts ++ read_facts l.step l.given l.earlier (take l.input-index l.inputs)
