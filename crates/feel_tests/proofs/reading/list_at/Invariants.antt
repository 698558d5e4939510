use Rattle.std.proofs.Common.{◌≡◌, length}
use Rattle.feel_tests.specs.Grammar.{IsList}
use Rattle.feel_tests.proofs.reading.list_at.Given as goal

abbrev pub invariant-loop-count : goal.invariant-loop-count
invariant-loop-count l = (length l.tests ≡ l._count) × IsList l.kind l.text l.tests l.rest
