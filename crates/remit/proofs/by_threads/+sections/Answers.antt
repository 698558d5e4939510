use Rattle.std.proofs.lemmas.Result.{err_from_is_err_and}
use Rattle.remit_records.specs.RecordWriter.{at}
use Rattle.remit_records.specs.Looked.{looked_up}
use Rattle.remit.proofs.Cutting.{cut-refused, cut-written}
use Rattle.remit.proofs.by_threads.+sections.Goals as goal

pub write_front_by_threads-returns-in_err-written-clause-writes : goal.write_front_by_threads-returns-in_err-written-clause-writes
write_front_by_threads-returns-in_err-written-clause-writes g t c =
    let p = err_from_is_err_and c.from_residual.result c.from_residual.ensures.1 in
    let front = c.write_section_in_front-part in
    rw (p.1, p.2)
    (cut-refused (looked_up c.args.report.now.decisions.now) c.args.section c.cut_after.result.0 c.cut_after.result.1 c.args.terms.now.plan.names
    c.args.terms.now.files (at _ _ c.args.report.now.writer) (at _ _ front.new.report.writer) c.in_err-written.field-0.0 c.requires.start c.cut_after.ensures
    (rw c.in_err-written.was at front.ensures.writes))

pub write_front_by_threads-returns-clause-writes : goal.write_front_by_threads-returns-clause-writes
write_front_by_threads-returns-clause-writes g t c =
    let front = c.write_section_in_front-part in
    cut-written (looked_up c.args.report.now.decisions.now) c.args.section c.cut_after.result.0 c.cut_after.result.1 c.args.terms.now.plan.names
    c.args.terms.now.files (at _ _ c.args.report.now.writer) (at _ _ front.new.report.writer) (at _ _ c.write_part.new.self.writer) c.write_part.result c.requires.start
    c.cut_after.ensures (rw c.in_ok-written.was at front.ensures.writes) (rw front.ensures.decisions at c.write_part.ensures.writes)
