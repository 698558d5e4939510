use Rattle.std.specs.Str.{bytes_eq}
use Rattle.tables.proofs.Searches.{FailsBefore}
use Rattle.dtable.proofs.reading.scope.output_column.Given as goal

abbrev pub invariant-loop-column : goal.invariant-loop-column
invariant-loop-column l = FailsBefore (λ x. bytes_eq x.name l.name) l.outputs l.column
