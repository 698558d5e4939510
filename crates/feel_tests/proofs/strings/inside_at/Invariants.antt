use Rattle.std.proofs.Common.{◌≡◌, ◌++◌, length}
use Rattle.feel_tests.specs.Words.{escaped}
use Rattle.feel_tests.proofs.strings.inside_at.Given as goal

abbrev pub invariant-pieces : goal.invariant-pieces
invariant-pieces l = l.inside ≡ escaped l.bytes.items ++ l.rest

abbrev pub decreases-pieces : goal.decreases-pieces
decreases-pieces l = length l.rest
