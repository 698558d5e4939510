use Rattle.std.proofs.Common.{◌≡◌, ◌++◌, map}
use Rattle.std.specs.List.{range_with_len}
use Rattle.plan_zones.specs.RulePlaces.{test_in}
use Rattle.plan_zones.proofs.rule_place.push_cell_tests.Given as goal

abbrev pub invariant-loop-test : goal.invariant-loop-test
invariant-loop-test l = l.tests ≡ l.fn.tests ++ map (test_in l.rule l.column) (range_with_len 0 l.test)
