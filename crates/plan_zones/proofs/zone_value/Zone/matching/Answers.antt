use Rattle.std.proofs.Common.{sym, ◌∙◌}
use Rattle.cutplan.specs.ClassWise.{rule_matches_in}
use Rattle.cutplan.proofs.ClassNumbers.{none_kept, one_kept}
use Rattle.plan_zones.specs.Zones.{class_of}
use Rattle.plan_zones.proofs.zone_value.Zone.matching.Goals as goal
use Rattle.plan_zones.proofs.zone_value.Zone.matching.Goals.{then-rule_matches+in_ok-push, else-rule_matches}

pub loop-rule-preserved : goal.loop-rule-preserved
loop-rule-preserved c =
    let matches = rule_matches_in (class_of c.args.self.now.regions.now c.args.self.now.places.now) c.args.earlier.now c.args.table.now in
    elim c.if-rule_matches.branch [
      | then-rule_matches+in_ok-push w ↦ w.found-is ∙ one_kept matches c.loop-rule.rule c.loop-rule.found _ c.loop-rule.invariant (sym c.rule_matches.ensures ∙ w.if-rule_matches.true) w.in_ok-push.ensures.ok
      | else-rule_matches w ↦ w.found-is ∙ none_kept matches c.loop-rule.rule c.loop-rule.found c.loop-rule.invariant (sym c.rule_matches.ensures ∙ w.if-rule_matches.false)
    ]
