use Rattle.std.proofs.Common.{◌≡◌, filter, take}
use Rattle.plan_zones.specs.Giving.{gives_number}
use Rattle.plan_zones.proofs.giving.rules_with_number.Given as goal

abbrev pub invariant-loop-rule : goal.invariant-loop-rule
invariant-loop-rule l = l.given ≡ filter (gives_number l.table l.answers) (take l.rule-index l.rules)
