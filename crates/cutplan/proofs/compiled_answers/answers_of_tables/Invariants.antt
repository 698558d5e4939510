use Rattle.std.proofs.Common.{◌≡◌, map, take}
use Rattle.cutplan.specs.CompiledAnswers.{compiled_answers}
use Rattle.cutplan.proofs.compiled_answers.answers_of_tables.Given as goal

abbrev pub invariant-loop-table : goal.invariant-loop-table
invariant-loop-table l = l.all ≡ map compiled_answers (take l.table-index l.tables)
