use Rattle.std.proofs.Common.{◌∙◌, arith}
use Rattle.std.proofs.lemmas.Grind.{common_steps}
use Rattle.plan_checks.proofs.Using.{dead_rules, dead_tests}
use Rattle.plan_checks.proofs.dead.dead_parts.Goals as goal

pub returns-clause-rules : goal.returns-clause-rules
returns-clause-rules c =
    dead_rules c.args.plan.now c.in_ok-regions.ensures.sound c.tables.result.now c.as_slice-2.result.now c.in_ok-dead.dead.rules c.tables.ensures.tables (c.as_slice-2.ensures ∙ c.in_ok-regions.ensures.regions)
    c.in_ok-dead.ensures.rules

pub returns-clause-tests : goal.returns-clause-tests
returns-clause-tests c =
    dead_tests c.args.plan.now c.in_ok-regions.ensures.sound c.tables.result.now c.as_slice-2.result.now c.in_ok-dead.dead.tests c.tables.ensures.tables (c.as_slice-2.ensures ∙ c.in_ok-regions.ensures.regions)
    c.in_ok-dead.ensures.tests

pub returns-then-zones-limit-clause-refused : goal.returns-then-zones-limit-clause-refused
returns-then-zones-limit-clause-refused c = grind (arith, common_steps)

pub returns-clause-narrow : goal.returns-clause-narrow
returns-clause-narrow c = grind (arith, common_steps)
