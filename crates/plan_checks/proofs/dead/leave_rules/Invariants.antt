use Rattle.std.proofs.Common.{◌≡◌, filter, not, take}
use Rattle.plan_zones.specs.Runs.{is_giving}
use Rattle.plan_checks.proofs.dead.leave_rules.Given as goal

abbrev pub invariant-loop-place : goal.invariant-loop-place
invariant-loop-place l = l.rules ≡ filter (λ place. not (is_giving l.given place)) (take l.place-index l.place-items)
