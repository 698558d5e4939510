use Rattle.std.proofs.Common.{◌≡◌, [], drop}
use Rattle.cutplan.specs.ClassWise.{answers_in}
use Rattle.plan_zones.specs.Zones.{class_of}
use Rattle.plan_zones.proofs.zone_value.Zone.value.Given as goal

abbrev pub invariant-loop-table : goal.invariant-loop-table
invariant-loop-table l =
    answers_in (class_of l.self.regions.now l.self.places.now) l.answers (drop l.table-index l.tables) ≡ answers_in (class_of l.self.regions.now l.self.places.now) [] l.tables
