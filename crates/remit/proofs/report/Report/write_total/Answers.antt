use Rattle.std.proofs.Common.{◌≡◌, ap, false, is_err, length, refl, ◌∙◌}
use Rattle.tables.specs.Plan.{PlanParts}
use Rattle.remit_records.specs.Records.{total_fields}
use Rattle.remit_records.specs.Report.{record_text}
use Rattle.remit_records.proofs.Holding.{no-memory, on-ok}
use Rattle.remit.proofs.report.Report.write_total.Goals as goal

pub returns-then-is_err : goal.returns-then-is_err
returns-then-is_err g c =
    let old = c.args.self.now.writer in
    no-memory _ _ old (record old { rendered = c.push_total.new.line }) (record_text (total_fields c.args.terms.now.plan.version c.args.journal.now)) c.no_memory.result
    (record { written = c.no_memory.ensures.written; cause = c.no_memory.ensures.cause })

pub returns : goal.returns
returns g c =
    let J = c.args.journal.now in
    let ok : is_err c.push_total.result ≡ false = cc (c.is_err.ensures.value, c.if-is_err.false) in
    let pushed = on-ok c.push_total.result _ ok c.push_total.ensures J (length J) (c.accepted_count-accepted.ensures ∙ c.requires) c.over-sums.ensures in
    let version = c.version-version.ensures.version ∙ ap (λ (p : PlanParts). p.version) c.plan.ensures.plan in
    rw version at (c.end_record.ensures c.args.self.now.writer (total_fields c.version-version.result J) (refl, pushed))
