use Rattle.std.specs.Str.{bytes_eq}
use Rattle.tables.proofs.Searches.{FailsBefore}
use Rattle.tables.proofs.environment.place_of.Given as goal

abbrev pub invariant-loop-place : goal.invariant-loop-place
invariant-loop-place l = FailsBefore (λ o. bytes_eq o.name l.name) l.outputs l.place
