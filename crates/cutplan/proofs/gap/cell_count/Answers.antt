use Rattle.std.proofs.Common.{◌+◌, ◌∙◌}
use Rattle.cutplan.specs.Numbered.{cell_limit}
use Rattle.cutplan.proofs.Counting.{count_more, whole_count}
use Rattle.cutplan.proofs.gap.cell_count.Goals as goal

pub loop-regions-preserved : goal.loop-regions-preserved
loop-regions-preserved c =
    c.capped_product-count.ensures ∙ count_more c.args.columns.now c.loop-regions.regions-index c.regions-item.result c.loop-regions.count c.len.result (cell_limit + 1) c.loop-regions-test.true c.regions-item.is c.len.ensures c.loop-regions.invariant

pub returns : goal.returns
returns c = whole_count c.args.columns.now c.loop-regions.regions-index c.loop-regions.count (cell_limit + 1) c.loop-regions-test.false c.loop-regions.invariant
