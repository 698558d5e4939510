use Rattle.std.specs.Str.{bytes_eq}
use Rattle.tables.proofs.Searches.{FailsBefore}
use Rattle.dtable.proofs.reading.scope.data_place.Given as goal

abbrev pub invariant-loop-place : goal.invariant-loop-place
invariant-loop-place l = FailsBefore (λ x. bytes_eq x.name l.name) l.names l.place
