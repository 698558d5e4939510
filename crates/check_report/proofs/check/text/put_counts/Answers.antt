use Rattle.fixpoint.specs.BufferedOut.{at}
use Rattle.check_report.proofs.Piecewise.{puts-three}
use Rattle.check_report.proofs.check.text.put_counts.Goals as goal

pub returns : goal.returns
returns g c = puts-three (at _ _ c.args.pieces.now) (at _ _ c.put_numbered.new.pieces) (at _ _ c.put_numbered-2.new.pieces) (at _ _ c.put.new.self) _ _ _ c.put_numbered.ensures c.put_numbered-2.ensures c.put.ensures.puts
