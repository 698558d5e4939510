use Rattle.fixpoint.specs.BufferedOut.{at}
use Rattle.check_report.proofs.Piecewise.{puts-three}
use Rattle.check_report.proofs.check.text.put_table.Goals as goal

pub returns : goal.returns
returns g c =
    puts-three (at _ _ c.args.pieces.now) (at _ _ c.put_overlaps.new.pieces) (at _ _ c.put_wide.new.pieces) (at _ _ c.put_gaps.new.pieces) _ _ _ (rw c.as_slice.ensures.value at c.put_overlaps.ensures) c.put_wide.ensures
    (rw (c.as_slice-2.ensures, c.as_slice-3.ensures.value) at c.put_gaps.ensures)
