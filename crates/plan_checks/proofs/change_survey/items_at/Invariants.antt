use Rattle.std.proofs.Common.{◌≡◌, take}
use Rattle.plan_zones.specs.Joint.{by_places}
use Rattle.plan_checks.proofs.change_survey.items_at.Given as goal

abbrev pub invariant-loop-place : goal.invariant-loop-place
invariant-loop-place l = l.found ≡ by_places (take l.place-index l.places) l.items
