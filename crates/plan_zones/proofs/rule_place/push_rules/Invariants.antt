use Rattle.std.proofs.Common.{◌≡◌, ◌++◌, map}
use Rattle.std.specs.List.{range_with_len}
use Rattle.plan_zones.specs.RulePlaces.{rule_at}
use Rattle.plan_zones.proofs.rule_place.push_rules.Given as goal

abbrev pub invariant-loop-rule : goal.invariant-loop-rule
invariant-loop-rule l = l.rules ≡ l.fn.rules ++ map (rule_at l.table) (range_with_len 0 l.rule)
