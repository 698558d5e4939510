use Rattle.std.proofs.Common.{ℕ, [], List, ap, subst, ◌∙◌}
use Rattle.std.specs.List.{flat_map}
use Rattle.plan_checks.specs.Leaving.{Begins, IsLeft}
use Rattle.plan_zones.specs.RulePlaces.{rule_tests}
use Rattle.plan_zones.specs.Runs.{gives_in, meets_in}
use Rattle.plan_zones.specs.Zones.{class_of}
use Rattle.plan_checks.proofs.dead.Zones.list_unused.Goals as goal

pub returns-clause-rules : goal.returns-clause-rules
returns-clause-rules c =
    let gives = λ (zone : List ℕ). gives_in (class_of c.args.self.now.regions.now zone) c.args.self.now.tables.now in
    subst (λ all. IsLeft gives (Begins [] c.args.self.now.regions.now) all c.leave.new.left.rules) c.in_ok-rules.ensures c.in_ok-leave.ensures.rules

pub returns-clause-tests : goal.returns-clause-tests
returns-clause-tests c =
    let meets = λ (zone : List ℕ). meets_in (class_of c.args.self.now.regions.now zone) c.args.self.now.tables.now in
    subst (λ all. IsLeft meets (Begins [] c.args.self.now.regions.now) all c.leave.new.left.tests)
    (c.in_ok-tests.ensures ∙ ap (flat_map (rule_tests c.args.self.now.tables.now)) (c.as_slice.ensures ∙ c.in_ok-rules.ensures)) c.in_ok-leave.ensures.tests
