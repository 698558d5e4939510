use Rattle.std.proofs.Common.{◌++◌, ◌∷◌, length}
use Rattle.plan_zones.specs.Boxes.{AreBoxesOf, AreGroupsOf, Extends}
use Rattle.plan_zones.proofs.walk.+boxes.Given as goal

abbrev pub decreases-boxes : goal.decreases-boxes
decreases-boxes g l = length l.left.now

-- the groups have the boxes of the first regions
abbrev pub invariant-loop-region : goal.invariant-loop-region
invariant-loop-region g l =
    Extends l.fn.outcomes l.outcomes
    × AreGroupsOf (λ region boxes. AreBoxesOf l.outcomes (λ zone. g.S.Survey.has_outcome l.survey (l.first ++ region ∷ zone)) l.more boxes) l.region l.groups.items
