use Rattle.std.proofs.Common.{◌≡◌, take}
use Rattle.plan_zones.proofs.giving.copy_of.Given as goal

abbrev pub invariant-loop-rule : goal.invariant-loop-rule
invariant-loop-rule l = l.copy ≡ take l.rule-index l.rules
