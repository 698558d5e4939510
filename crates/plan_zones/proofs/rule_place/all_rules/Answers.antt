use Rattle.std.proofs.Common.{◌++◌, [], map, ap, ◌∙◌}
use Rattle.std.specs.List.{range_with_len}
use Rattle.plan_zones.specs.RulePlaces.{rule_at, table_rules}
use Rattle.plan_zones.proofs.PlaceLists.{pushed_all}
use Rattle.plan_zones.proofs.rule_place.all_rules.Goals as goal

pub loop-table-preserved : goal.loop-table-preserved
loop-table-preserved c =
    pushed_all (table_rules c.args.tables.now) [] c.loop-table.rules _ c.loop-table.table c.loop-table.invariant
    (c.in_ok-push_rules.ensures ∙ ap (λ n. c.loop-table.rules ++ map (rule_at c.loop-table.table) (range_with_len 0 n)) c.rule_count.ensures)
