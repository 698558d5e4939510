use Rattle.fixpoint.specs.BufferedOut.{at}
use Rattle.fixpoint.proofs.Buffering.{puts-then}
use Rattle.check_report.proofs.Piecewise.{puts-three}
use Rattle.check_report.proofs.check.text.put_gap.Goals as goal

pub returns : goal.returns
returns g c =
    puts-then (at _ _ c.args.pieces.now) (at _ _ c.put_numbered.new.pieces) (at _ _ c.put-2.new.self) _ _ (rw c.number.ensures.number at c.put_numbered.ensures)
    (puts-three (at _ _ c.put_numbered.new.pieces) (at _ _ c.put.new.self) (at _ _ c.put_cell.new.pieces) (at _ _ c.put-2.new.self) _ _ _ c.put.ensures.puts c.put_cell.ensures c.put-2.ensures.puts)
