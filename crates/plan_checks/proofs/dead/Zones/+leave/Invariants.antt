use Rattle.std.proofs.Common.{length}
use Rattle.plan_checks.specs.Leaving.{BeginsBelow, IsLeft}
use Rattle.plan_zones.specs.Runs.{gives_in, meets_in}
use Rattle.plan_zones.specs.Zones.{class_of}
use Rattle.plan_checks.proofs.dead.Zones.+leave.Given as goal

abbrev pub decreases-leave : goal.decreases-leave
decreases-leave l = length l.more.now

-- what the zones of the regions so far leave
abbrev pub invariant-loop-region : goal.invariant-loop-region
invariant-loop-region l =
    IsLeft (λ zone. gives_in (class_of l.self.regions.now zone) l.self.tables.now) (BeginsBelow l.first l.more l.region) l.fn.left.rules l.left.rules
    × IsLeft (λ zone. meets_in (class_of l.self.regions.now zone) l.self.tables.now) (BeginsBelow l.first l.more l.region) l.fn.left.tests l.left.tests
