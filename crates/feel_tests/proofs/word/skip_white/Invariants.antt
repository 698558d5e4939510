use Rattle.std.proofs.Common.{◌≡◌, length}
use Rattle.feel_tests.specs.Words.{skip_white}
use Rattle.feel_tests.proofs.word.skip_white.Given as goal

abbrev pub invariant-loop-rest : goal.invariant-loop-rest
invariant-loop-rest l = skip_white l.rest ≡ skip_white l.text

abbrev pub decreases-loop-rest : goal.decreases-loop-rest
decreases-loop-rest l = length l.rest
