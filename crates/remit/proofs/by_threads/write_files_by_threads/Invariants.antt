use Rattle.std.proofs.Common.{◌≡◌, ◌≤◌, ◌-◌, Ok, take}
use Rattle.fixpoint.specs.Out.{has_failed, writer_of}
use Rattle.remit_records.specs.RecordWriter.{at}
use Rattle.remit_records.specs.Looked.{looked_up}
use Rattle.remit_records.specs.Rows.{WritesFiles}
use Rattle.remit.proofs.by_threads.write_files_by_threads.Given as goal

-- the first `written` files are written
abbrev pub invariant-groups : goal.invariant-groups
invariant-groups g l =
    let contents = g.W.Write.contents in
    record {
      within : l.written ≤ l.providers;
      so_far : WritesFiles (looked_up l.initial.report.decisions.now) l.terms.plan.names (take l.written l.terms.files)
          (at (contents (writer_of l.initial.out)) (has_failed l.initial.out) l.initial.report.writer) (at (contents (writer_of l.out)) (has_failed l.out) l.report.writer) (Ok tt);
      decisions : l.report.decisions ≡ l.initial.report.decisions;
    }

abbrev pub decreases-groups : goal.decreases-groups
decreases-groups g l = l.providers - l.written
