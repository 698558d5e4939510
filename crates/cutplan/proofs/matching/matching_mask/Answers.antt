use Rattle.cutplan.proofs.ByMasks.{column_met, kept_met}
use Rattle.cutplan.proofs.TextSearch.{column_others}
use Rattle.cutplan.proofs.matching.matching_mask.Goals as goal

pub mask_read-requires : goal.mask_read-requires
mask_read-requires c = column_others c.args.table.now c.args.columns.now c.loop-column.column-index c.column-item.result c.requires.kept c.loop-column-test.true c.column-item.is

pub loop-column-preserved : goal.loop-column-preserved
loop-column-preserved c =
    column_met c.args.table.now c.args.columns.now c.args.given.now c.args.earlier.now c.loop-column.column-index c.column-item.result c.loop-column.mask c.in_ok-read.read.now c.meet-mask.result
    c.requires.kept c.loop-column-test.true c.column-item.is c.in_ok-read.ensures c.loop-column.invariant c.meet-mask.ensures.words c.meet-mask.ensures.has

pub returns : goal.returns
returns c = kept_met c.args.table.now c.args.columns.now c.args.given.now c.args.earlier.now c.loop-column.column-index c.loop-column.mask c.requires.kept c.loop-column-test.false c.loop-column.invariant
