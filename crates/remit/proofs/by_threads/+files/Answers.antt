use Rattle.std.proofs.Common.{◌≡◌, [], ◌-◌, arith, get_or, sym}
use Rattle.std.proofs.lemmas.Result.{err_from_is_err_and}
use Rattle.remit_records.specs.RecordWriter.{at}
use Rattle.remit_records.specs.Looked.{looked_up}
use Rattle.remit.proofs.Cutting.{whole-written}
use Rattle.remit_records.proofs.Filing.{next-written, refused-before}
use Rattle.remit.proofs.by_threads.+files.Goals as goal

pub write_group-returns-then-group-eq1-clause-writes : goal.write_group-returns-then-group-eq1-clause-writes
write_group-returns-then-group-eq1-clause-writes g t c =
    let decided = looked_up c.args.report.now.decisions.now in
    let names = c.args.terms.now.plan.names in
    let texts = c.args.terms.now.files in
    let one : c.args.group.end - 1 ≡ c.args.group.start = omega (arith, c.if-group-eq1.true, c.requires.some) in
    record {
      on = λ start before.
          next-written decided names texts c.args.group.end start (at _ _ c.args.report.now.writer) (at _ _ c.write_first_file.new.report.writer) c.write_first_file.result
          (omega (arith, c.requires.some)) c.requires.most (rw (sym one) at before) c.write_first_file.ensures.writes;
    }

pub write_group-returns-in_err-written-clause-writes : goal.write_group-returns-in_err-written-clause-writes
write_group-returns-in_err-written-clause-writes g t c =
    let p = err_from_is_err_and c.from_residual.result c.from_residual.ensures.1 in
    let front = c.write_files_in_front-part in
    rw (p.1, p.2)
    (record {
      on = λ start before.
          refused-before (looked_up c.args.report.now.decisions.now) c.args.terms.now.plan.names c.args.terms.now.files (c.args.group.end - 1) c.args.group.end start
          (at _ _ front.new.report.writer) c.in_err-written.field-0.0 (omega arith) (rw c.in_err-written.was at (front.ensures.writes.on start before));
    })

pub write_group-returns-clause-writes : goal.write_group-returns-clause-writes
write_group-returns-clause-writes g t c =
    let front = c.write_files_in_front-part in
    let names = c.args.terms.now.plan.names in
    let file = whole-written (looked_up front.new.report.decisions.now) c.args.group.end names (get_or c.args.terms.now.files (c.args.group.end - 1) [])
    (at _ _ front.new.report.writer) (at _ _ c.write_part.new.self.writer) c.write_part.result (rw c.whole_file.ensures at c.write_part.ensures.writes) in
    record {
      on = λ start before.
          next-written (looked_up c.args.report.now.decisions.now) names c.args.terms.now.files c.args.group.end start
          (at _ _ front.new.report.writer) (at _ _ c.write_part.new.self.writer) c.write_part.result (omega (arith, c.requires.some)) c.requires.most
          (rw c.in_ok-written.was at (front.ensures.writes.on start before)) (rw front.ensures.decisions at file);
    }
