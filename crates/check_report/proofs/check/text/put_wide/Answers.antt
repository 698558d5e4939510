use Rattle.fixpoint.specs.BufferedOut.{at}
use Rattle.fixpoint.proofs.Buffering.{puts-then}
use Rattle.check_report.proofs.Piecewise.{puts-not-wide, puts-wide}
use Rattle.check_report.proofs.check.text.put_wide.Goals as goal

pub returns-then-is_wide : goal.returns-then-is_wide
returns-then-is_wide g c =
    puts-wide (at _ _ c.args.pieces.now) (at _ _ c.put.new.self) c.args.table c.args.is_wide c.if-is_wide.true
    (puts-then (at _ _ c.args.pieces.now) (at _ _ c.put_numbered.new.pieces) (at _ _ c.put.new.self) _ _ (rw c.number.ensures.number at c.put_numbered.ensures) c.put.ensures.puts)

pub returns-else-is_wide : goal.returns-else-is_wide
returns-else-is_wide g c = puts-not-wide (at _ _ c.args.pieces.now) c.args.table c.args.is_wide c.if-is_wide.false
