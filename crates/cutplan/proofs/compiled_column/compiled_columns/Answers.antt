use Rattle.cutplan.proofs.Compiling.{all_kept, more_kept}
use Rattle.cutplan.proofs.compiled_column.compiled_columns.Goals as goal

pub loop-place-preserved : goal.loop-place-preserved
loop-place-preserved c =
    more_kept c.args.plan.now c.args.table.now c.as_slice-input-items.result.now c.loop-place.kept _ c.loop-place.place c.input-item.result c.in_ok-compiled_column.field-0
    c.as_slice-input-items.ensures c.loop-place-test.true c.input-item.is c.loop-place.invariant c.in_ok-compiled_column.ensures c.in_ok-push.ensures.ok

pub returns : goal.returns
returns c = all_kept c.args.plan.now c.args.table.now c.as_slice-input-items.result.now c.loop-place.place c.loop-place.kept c.as_slice-input-items.ensures c.loop-place-test.false c.loop-place.invariant
