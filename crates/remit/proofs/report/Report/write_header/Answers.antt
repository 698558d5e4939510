use Rattle.std.proofs.Common.{◌≡◌, ◌∙◌, ap, false, is_err, refl}
use Rattle.tables.specs.Plan.{PlanParts}
use Rattle.remit_records.specs.Records.{header_fields}
use Rattle.remit_records.specs.Report.{record_text}
use Rattle.remit_records.proofs.Holding.{no-memory, on-ok}
use Rattle.remit.proofs.report.Report.write_header.Goals as goal

pub returns-then-is_err-clause-writes : goal.returns-then-is_err-clause-writes
returns-then-is_err-clause-writes g c =
    let old = c.args.self.now.writer in
    no-memory _ _ old (record old { rendered = c.push_header.new.line }) (record_text (header_fields c.args.terms.now.plan.version)) c.no_memory.result
    (record { written = c.no_memory.ensures.written; cause = c.no_memory.ensures.cause })

pub returns-clause-writes : goal.returns-clause-writes
returns-clause-writes g c =
    let ok : is_err c.push_header.result ≡ false = cc (c.is_err.ensures.value, c.if-is_err.false) in
    let version = c.version.ensures.version ∙ ap (λ (p : PlanParts). p.version) c.plan.ensures.plan in
    rw version at (c.end_record.ensures c.args.self.now.writer (header_fields c.version.result) (refl, on-ok c.push_header.result _ ok c.push_header.ensures))
