use Rattle.std.proofs.Common.{◌≡◌, length}
use Rattle.fixpoint.specs.Out.{has_failed, writer_of}
use Rattle.remit_records.specs.RecordWriter.{at}
use Rattle.remit_records.specs.Looked.{looked_up}
use Rattle.remit.proofs.Limiting.{RowsSoFar}
use Rattle.remit.proofs.report.Report.write_rows.Given as goal

-- the rows so far are written
abbrev pub invariant-loop-left : goal.invariant-loop-left
invariant-loop-left g l =
    let contents = g.W.Write.contents in
    record {
      so_far : RowsSoFar (looked_up l.initial.self.decisions.now) l.provider l.fn.limit l.left l.initial.rows l.rows
          (at (contents (writer_of l.initial.out)) (has_failed l.initial.out) l.initial.self.writer) (at (contents (writer_of l.out)) (has_failed l.out) l.self.writer);
      decisions : l.self.decisions ≡ l.initial.self.decisions;
    }

abbrev pub decreases-loop-left : goal.decreases-loop-left
decreases-loop-left g l = length l.rows.records
