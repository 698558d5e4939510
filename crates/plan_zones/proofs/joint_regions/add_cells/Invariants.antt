use Rattle.std.proofs.Common.{◌≡◌, take}
use Rattle.std.specs.List.{flat_map, fold}
use Rattle.cutplan.specs.CheckSteps.{with_literal}
use Rattle.plan_zones.specs.Joint.{narrowing_literals}
use Rattle.plan_zones.proofs.joint_regions.add_cells.Given as goal

abbrev pub invariant-loop-narrowing : goal.invariant-loop-narrowing
invariant-loop-narrowing l = l.found.items ≡ fold (with_literal l.kind) l.initial.found.items (flat_map (narrowing_literals l.text) (take l.narrowing-index l.narrowed))
