use Rattle.plan_zones.specs.RulePlaces.{rule_at}
use Rattle.plan_zones.proofs.PlaceLists.{pushed_one}
use Rattle.plan_zones.proofs.rule_place.push_rules.Goals as goal

pub loop-rule-preserved : goal.loop-rule-preserved
loop-rule-preserved c = pushed_one (rule_at c.args.table) c.args.rules.now c.loop-rule.rules _ c.loop-rule.rule c.loop-rule.invariant c.in_ok-push.ensures.ok
