use Rattle.std.proofs.Common.{◌∙◌, subst}
use Rattle.cutplan.specs.Masks.{Marks}
use Rattle.cutplan.specs.CheckSteps.{holds_among}
use Rattle.cutplan.proofs.Compiling.{more_regions}
use Rattle.cutplan.proofs.compiled_column.masks_by_cells.Goals as goal

pub loop-region-preserved : goal.loop-region-preserved
loop-region-preserved c =
    let is = c.loop-region.invariant.0 in
    let r = c.region-item.result in (
      c.mask_of.ensures.same ∙ is,
      more_regions c.args.asked.now c.args.regions.now c.loop-region.masks _ c.loop-region.region-index r c.mask_of.result c.loop-region-test.true c.region-item.is c.loop-region.invariant.1
          (subst (λ cells. Marks (holds_among cells r) c.mask_of.result) is c.mask_of.ensures.marks) c.in_ok-push.ensures.ok,
    )
