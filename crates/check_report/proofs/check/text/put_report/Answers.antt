use Rattle.fixpoint.specs.BufferedOut.{at}
use Rattle.fixpoint.proofs.Buffering.{ends-text, puts-then}
use Rattle.check_report.proofs.check.text.put_report.Goals as goal

pub returns : goal.returns
returns g c =
    ends-text _ _ _ _ c.new-pieces.result (at _ _ c.put_counts.new.pieces) _ _ c.new-pieces.ensures
    (puts-then (at _ _ c.new-pieces.result) (at _ _ c.put_tables.new.pieces) (at _ _ c.put_counts.new.pieces) _ _ (rw c.as_slice.ensures.value at c.put_tables.ensures) c.put_counts.ensures) c.end.ensures
