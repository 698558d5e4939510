use Rattle.plan_zones.specs.RulePlaces.{test_in}
use Rattle.plan_zones.proofs.PlaceLists.{pushed_one}
use Rattle.plan_zones.proofs.rule_place.push_cell_tests.Goals as goal

pub loop-test-preserved : goal.loop-test-preserved
loop-test-preserved c = pushed_one (test_in c.args.rule c.args.column) c.args.tests.now c.loop-test.tests _ c.loop-test.test c.loop-test.invariant c.in_ok-push.ensures.ok
