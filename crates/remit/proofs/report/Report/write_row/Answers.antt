use Rattle.std.proofs.Common.{◌≡◌, false, is_err, refl}
use Rattle.remit_records.specs.Looked.{looked_up}
use Rattle.remit_records.specs.Records.{record_of}
use Rattle.remit_records.specs.Report.{record_text}
use Rattle.remit_records.proofs.Holding.{no-memory, on-ok}
use Rattle.remit.proofs.report.Report.write_row.Goals as goal

pub returns-then-is_err-clause-writes : goal.returns-then-is_err-clause-writes
returns-then-is_err-clause-writes g c = λ row is_summary.
    let old = c.args.self.now.writer in
    no-memory _ _ old (record old { rendered = c.push_row.new.line }) (record_text (record_of (looked_up c.args.self.now.decisions.now) c.args.provider row)) c.no_memory.result
    (record { written = c.no_memory.ensures.written; cause = c.no_memory.ensures.cause })

pub returns-clause-writes : goal.returns-clause-writes
returns-clause-writes g c = λ row is_summary.
    let ok : is_err c.push_row.result ≡ false = cc (c.is_err.ensures.value, c.if-is_err.false) in
    c.end_record.ensures c.args.self.now.writer (record_of (looked_up c.args.self.now.decisions.now) c.args.provider row)
    (refl, on-ok c.push_row.result _ ok c.push_row.ensures row is_summary)
