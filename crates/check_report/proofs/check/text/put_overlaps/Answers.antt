use Rattle.check_report.specs.CheckText.{overlap_line}
use Rattle.fixpoint.specs.BufferedOut.{at}
use Rattle.fixpoint.proofs.Buffering.{puts-none}
use Rattle.check_report.proofs.Piecewise.{puts-all, puts-more}
use Rattle.check_report.proofs.check.text.put_overlaps.Goals as goal

pub loop-rules-init : goal.loop-rules-init
loop-rules-init g c = puts-none (at _ _ c.args.pieces.now)

pub loop-rules-preserved : goal.loop-rules-preserved
loop-rules-preserved g c =
    puts-more (overlap_line c.args.table) c.args.overlaps.now c.loop-rules.rules-index (0, 0) (at _ _ c.args.pieces.now) (at _ _ c.loop-rules.pieces) (at _ _ c.put_overlap.new.pieces) c.loop-rules-test.true c.loop-rules.invariant
    c.put_overlap.ensures

pub returns : goal.returns
returns g c =
    puts-all (overlap_line c.args.table) c.args.overlaps.now c.loop-rules.rules-index (at _ _ c.args.pieces.now) (at _ _ c.loop-rules.pieces) c.loop-rules-test.false c.loop-rules.invariant
