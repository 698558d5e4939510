use Rattle.std.proofs.Common.{◌≡◌, filter, not, take}
use Rattle.plan_zones.specs.Runs.{is_met}
use Rattle.plan_zones.specs.Zones.{class_of}
use Rattle.plan_checks.proofs.dead.leave_tests.Given as goal

abbrev pub invariant-loop-place : goal.invariant-loop-place
invariant-loop-place l = l.tests ≡ filter (λ place. not (is_met (class_of l.zone.regions.now l.zone.places.now) l.tables l.answers place)) (take l.place-index l.place-items)
