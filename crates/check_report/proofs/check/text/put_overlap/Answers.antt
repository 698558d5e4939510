use Rattle.fixpoint.specs.BufferedOut.{at}
use Rattle.fixpoint.proofs.Buffering.{puts-then}
use Rattle.check_report.proofs.check.text.put_overlap.Goals as goal

pub returns : goal.returns
returns g c = puts-then (at _ _ c.args.pieces.now) (at _ _ c.put_numbered.new.pieces) (at _ _ c.put_rules.new.pieces) _ _ (rw c.number.ensures.number at c.put_numbered.ensures) c.put_rules.ensures
