use Rattle.std.proofs.Common.{◌≡◌, take}
use Rattle.plan_checks.proofs.change_survey.copies_of.Given as goal

abbrev pub invariant-loop-region : goal.invariant-loop-region
invariant-loop-region l = l.copies ≡ take l.region-index l.choices
