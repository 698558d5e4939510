use Rattle.std.proofs.Common.{◌+◌, ◌∙◌, ap, length}
use Rattle.cutplan.specs.Numbered.{cell_limit}
use Rattle.cutplan.proofs.Counting.{count_kept, whole_kept}
use Rattle.cutplan.proofs.gap.count_cells.Goals as goal

pub loop-column-preserved : goal.loop-column-preserved
loop-column-preserved c =
    c.capped_product-count.ensures ∙ count_kept c.args.columns.now c.loop-column.column-index c.column-item.result c.loop-column.count (length c.as_slice.result.now) (cell_limit + 1) c.loop-column-test.true c.column-item.is (ap length c.as_slice.ensures.value) c.loop-column.invariant

pub returns : goal.returns
returns c = whole_kept c.args.columns.now c.loop-column.column-index c.loop-column.count (cell_limit + 1) c.loop-column-test.false c.loop-column.invariant
