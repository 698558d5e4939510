use Rattle.std.proofs.Common.{◌≡◌}
use Rattle.test_claims.proofs.settling.input_classes.settles_often.Given as goal

abbrev pub invariant-loop : goal.invariant-loop
invariant-loop g l = l.desk ≡ l.counted.plan.now
