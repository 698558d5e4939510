use Rattle.std.proofs.Common.{◌≡◌, take}
use Rattle.std.specs.List.{flat_map}
use Rattle.plan_zones.specs.RulePlaces.{rule_tests}
use Rattle.plan_zones.proofs.rule_place.tests_of_rules.Given as goal

abbrev pub invariant-loop-rule : goal.invariant-loop-rule
invariant-loop-rule l = l.tests ≡ flat_map (rule_tests l.tables) (take l.rule-index l.rules)
