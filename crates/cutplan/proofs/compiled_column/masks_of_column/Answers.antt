use Rattle.std.proofs.lemmas.Grind.{common_steps}
use Rattle.std.proofs.Common.{◌∙◌, arith}
use Rattle.std.proofs.lemmas.Result.{IfOk-weaker}
use Rattle.cutplan.specs.Masks.{AreMasks}
use Rattle.cutplan.specs.CheckSteps.{AreMasksBy}
use Rattle.cutplan.proofs.CellProbes.{masks_of}
use Rattle.cutplan.proofs.compiled_column.masks_of_column.Goals as goal

pub returns : goal.returns
returns c =
    let t = c.args.table.now in
    let regions = c.args.regions.now in
    let cells = c.as_mut_slice.result.now in
    IfOk-weaker c.masks_by_cells.result (AreMasksBy cells regions) (AreMasks t c.args.column regions)
    (λ masks all. masks_of t c.args.column cells regions masks (c.as_mut_slice.ensures.value ∙ c.in_ok-asked.ensures) all) c.masks_by_cells.ensures

pub masks_by_cells-requires : goal.masks_by_cells-requires
masks_by_cells-requires c = grind (arith, common_steps)
