use Rattle.std.proofs.Common.{◌≡◌, ◌++◌, []}
use Rattle.std.specs.List.{flat_map, range_with_len}
use Rattle.plan_zones.specs.RulePlaces.{table_rules}
use Rattle.plan_zones.proofs.rule_place.all_rules.Given as goal

abbrev pub invariant-loop-table : goal.invariant-loop-table
invariant-loop-table l = l.rules ≡ [] ++ flat_map (table_rules l.tables) (range_with_len 0 l.table)
