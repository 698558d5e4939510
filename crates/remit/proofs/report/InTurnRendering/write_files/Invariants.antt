use Rattle.std.proofs.Common.{◌≡◌}
use Rattle.fixpoint.specs.Out.{has_failed, writer_of}
use Rattle.remit_records.specs.RecordWriter.{at}
use Rattle.remit_records.specs.Looked.{looked_up}
use Rattle.remit_records.proofs.Filing.{FilesSoFar}
use Rattle.remit.proofs.report.InTurnRendering.write_files.Given as goal

-- the files so far are written
abbrev pub invariant-loop-place : goal.invariant-loop-place
invariant-loop-place g l =
    let contents = g.W.Write.contents in
    record {
      so_far : FilesSoFar (looked_up l.initial.report.decisions.now) l.terms.plan.names l.terms.files l.place
          (at (contents (writer_of l.initial.out)) (has_failed l.initial.out) l.initial.report.writer) (at (contents (writer_of l.out)) (has_failed l.out) l.report.writer);
      decisions : l.report.decisions ≡ l.initial.report.decisions;
    }
