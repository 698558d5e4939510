use Rattle.std.proofs.Common.{◌≡◌, [], get_or, ◌+◌, ◌++◌, take, length}
use Rattle.std.specs.List.{flat_map}
use Rattle.cutplan.specs.CompiledColumns.{regions_kept}
use Rattle.cutplan.specs.Masks.{rules_in}
use Rattle.cutplan.specs.CheckSteps.{uncovered}
use Rattle.cutplan.specs.Places.{places}
use Rattle.cutplan.proofs.Places.{cells_with}
use Rattle.cutplan.proofs.gap.+walk_cells.Given as goal

abbrev pub decreases-walk_cells : goal.decreases-walk_cells
decreases-walk_cells l = length l.columns.now

-- the cells of the first regions
abbrev pub invariant-loop-mask : goal.invariant-loop-mask
invariant-loop-mask l = record {
  found : l.walk.found.items ≡ l.initial.walk.found.items
      ++ places (uncovered l.table l.place (rules_in (length l.table.rules) l.rules)) l.initial.walk.passed (flat_map (cells_with (regions_kept l.more)) (take l.mask-index (get_or (regions_kept l.columns) 0 [])));
  passed : l.walk.passed ≡ l.initial.walk.passed + length (flat_map (cells_with (regions_kept l.more)) (take l.mask-index (get_or (regions_kept l.columns) 0 [])));
}
