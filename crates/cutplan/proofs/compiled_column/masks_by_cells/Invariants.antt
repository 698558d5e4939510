use Rattle.std.proofs.Common.{◌≡◌, take}
use Rattle.cutplan.specs.CheckSteps.{AreMasksBy}
use Rattle.cutplan.proofs.compiled_column.masks_by_cells.Given as goal

abbrev pub invariant-loop-region : goal.invariant-loop-region
invariant-loop-region l = (l.asked ≡ l.fn.asked) × AreMasksBy l.fn.asked (take l.region-index l.regions) l.masks
