use Rattle.check_report.specs.CheckReport.{reported_gap_line}
use Rattle.fixpoint.specs.BufferedOut.{at}
use Rattle.fixpoint.proofs.Buffering.{puts-none}
use Rattle.check_report.proofs.Piecewise.{puts-all, puts-more}
use Rattle.check_report.proofs.check.text.put_gaps.Goals as goal

pub loop-place-init : goal.loop-place-init
loop-place-init g c = puts-none (at _ _ c.args.pieces.now)

pub loop-place-preserved : goal.loop-place-preserved
loop-place-preserved g c =
    puts-more (reported_gap_line c.args.table c.args.columns.now) c.args.gaps.now c.loop-place.place-index 0 (at _ _ c.args.pieces.now) (at _ _ c.loop-place.pieces) (at _ _ c.put_gap.new.pieces) c.loop-place-test.true c.loop-place.invariant
    c.put_gap.ensures

pub returns : goal.returns
returns g c =
    puts-all (reported_gap_line c.args.table c.args.columns.now) c.args.gaps.now c.loop-place.place-index (at _ _ c.args.pieces.now) (at _ _ c.loop-place.pieces) c.loop-place-test.false c.loop-place.invariant
