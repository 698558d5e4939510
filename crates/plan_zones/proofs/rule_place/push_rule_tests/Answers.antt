use Rattle.std.proofs.Common.{◌++◌, map, ap, ◌∙◌}
use Rattle.std.specs.List.{range_with_len}
use Rattle.plan_zones.specs.RulePlaces.{cell_tests, test_in}
use Rattle.plan_zones.proofs.PlaceLists.{pushed_all}
use Rattle.plan_zones.proofs.rule_place.push_rule_tests.Goals as goal

pub loop-column-preserved : goal.loop-column-preserved
loop-column-preserved c =
    pushed_all (cell_tests c.args.tables.now c.args.rule) c.args.tests.now c.loop-column.tests _ c.loop-column.column c.loop-column.invariant
    (c.in_ok-push_cell_tests.ensures ∙ ap (λ n. c.loop-column.tests ++ map (test_in c.args.rule c.loop-column.column) (range_with_len 0 n)) c.test_count.ensures)
