use Rattle.std.proofs.Common.{◌≡◌, ℕ, ◌++◌}
use Rattle.cutplan.specs.Matching.{places_set}
use Rattle.cutplan.proofs.mask.push_places.Given as goal

abbrev pub invariant-bits : goal.invariant-bits
invariant-bits l = (width : ℕ) → width ≡ 64 → l.found.items ++ places_set l.left l.first width ≡ l.fn.found.items ++ places_set l.word l.first width

abbrev pub decreases-bits : goal.decreases-bits
decreases-bits l = l.left
