use Rattle.std.proofs.Common.{◌≡◌, ◌++◌, take}
use Rattle.explanation.specs.Tables.{rule_facts}
use Rattle.explanation.proofs.table.add_rules.Given as goal

abbrev pub invariant-loop-rule : goal.invariant-loop-rule
invariant-loop-rule l = l.facts ≡ l.initial.facts ++ rule_facts l.step l.name (take l.rule-index l.rules)
