use Rattle.std.proofs.Common.{◌≡◌, filter}
use Rattle.std.specs.List.{range_with_len}
use Rattle.cutplan.specs.ClassWise.{rule_matches_in}
use Rattle.plan_zones.specs.Zones.{class_of}
use Rattle.plan_zones.proofs.zone_value.Zone.matching.Given as goal

abbrev pub invariant-loop-rule : goal.invariant-loop-rule
invariant-loop-rule l = l.found ≡ filter (rule_matches_in (class_of l.self.regions.now l.self.places.now) l.earlier l.table) (range_with_len 0 l.rule)
