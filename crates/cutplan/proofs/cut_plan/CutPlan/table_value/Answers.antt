use Rattle.cutplan.proofs.ByMasks.{value_by_mask}
use Rattle.cutplan.proofs.cut_plan.CutPlan.table_value.Goals as goal

pub returns-in-Some : goal.returns-in-Some
returns-in-Some c =
    value_by_mask c.args.given.now c.args.earlier.now c.args.table.now c.in-Some.mask c.value_of_mask.result c.in-Some.ensures.mask c.in-Some.ensures.few c.value_of_mask.ensures
