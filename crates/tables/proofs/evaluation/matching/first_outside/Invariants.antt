use Rattle.tables.specs.Matching.{is_outside}
use Rattle.tables.proofs.Searches.{FailsBefore}
use Rattle.tables.proofs.evaluation.matching.first_outside.Given as goal

abbrev pub invariant-loop-column : goal.invariant-loop-column
invariant-loop-column l = FailsBefore (is_outside l.given l.earlier) l.inputs l.column
