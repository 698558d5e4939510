use Rattle.std.proofs.Common.{◌≡◌, false, take}
use Rattle.feel_tests.specs.Holds.{one_passes}
use Rattle.feel_tests.proofs.cell.one_passes.Given as goal

-- no test so far holds
abbrev pub invariant-loop-test : goal.invariant-loop-test
invariant-loop-test l = one_passes (take l.test-index l.tests) l.value ≡ false
