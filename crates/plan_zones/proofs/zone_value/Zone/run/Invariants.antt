use Rattle.std.proofs.Common.{◌≡◌, ◌++◌, [], drop}
use Rattle.plan_zones.specs.Runs.{answered_in, giving_in}
use Rattle.plan_zones.specs.Zones.{class_of}
use Rattle.plan_zones.proofs.zone_value.Zone.run.Given as goal

-- the answers and rules so far, with those of the tables that are left
abbrev pub invariant-loop-table : goal.invariant-loop-table
invariant-loop-table l =
    (l.answers ++ answered_in (class_of l.self.regions.now l.self.places.now) l.answers (drop l.table-index l.tables) ≡ answered_in (class_of l.self.regions.now l.self.places.now) [] l.tables)
    × (l.giving ++ giving_in (class_of l.self.regions.now l.self.places.now) l.answers (drop l.table-index l.tables) ≡ giving_in (class_of l.self.regions.now l.self.places.now) [] l.tables)
