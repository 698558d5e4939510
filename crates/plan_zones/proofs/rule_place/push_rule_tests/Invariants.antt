use Rattle.std.proofs.Common.{◌≡◌, ◌++◌}
use Rattle.std.specs.List.{flat_map, range_with_len}
use Rattle.plan_zones.specs.RulePlaces.{cell_tests}
use Rattle.plan_zones.proofs.rule_place.push_rule_tests.Given as goal

abbrev pub invariant-loop-column : goal.invariant-loop-column
invariant-loop-column l = l.tests ≡ l.fn.tests ++ flat_map (cell_tests l.tables l.rule) (range_with_len 0 l.column)
