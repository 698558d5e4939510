use Rattle.std.proofs.Common.{◌≡◌, [], ◌-◌, false, get_or, is_err, arith}
use Rattle.std.proofs.lemmas.Grind.{common_steps}
use Rattle.remit_records.specs.Looked.{looked_up}
use Rattle.remit.proofs.Cutting.{of-skipped, section-no-memory}
use Rattle.remit_records.proofs.Holding.{on-ok}
use Rattle.remit.proofs.report.Report.write_section.Goals as goal

pub returns-in_default-clause-writes : goal.returns-in_default-clause-writes
returns-in_default-clause-writes g c =
    section-no-memory (looked_up c.args.self.now.decisions.now) c.args.section.provider c.args.terms.now.plan.names
    (get_or c.args.terms.now.files (c.args.section.provider - 1) []) c.args.section.start c.args.section.end _ _ c.args.self.now.writer c.no_memory.result
    (record { written = c.no_memory.ensures.written; cause = c.no_memory.ensures.cause })

pub returns-then-is_err-clause-writes : goal.returns-then-is_err-clause-writes
returns-then-is_err-clause-writes g c =
    section-no-memory (looked_up c.args.self.now.decisions.now) c.args.section.provider c.args.terms.now.plan.names
    (get_or c.args.terms.now.files (c.args.section.provider - 1) []) c.args.section.start c.args.section.end _ _ c.args.self.now.writer c.no_memory-then-is_err.result
    (record { written = c.no_memory-then-is_err.ensures.written; cause = c.no_memory-then-is_err.ensures.cause })

pub returns-clause-writes : goal.returns-clause-writes
returns-clause-writes g c =
    let ok : is_err c.skip_rows.result ≡ false = cc (c.is_err.ensures.value, c.if-is_err.false) in
    of-skipped c.reader_begins_with_all_rows.ensures (looked_up c.args.self.now.decisions.now) c.args.section.provider c.args.terms.now.plan.names
    (get_or c.args.terms.now.files (c.args.section.provider - 1) []) c.in-Ok.rows c.skip_rows.new.rows c.args.section.start c.args.section.end _ _ c.write_rows.result
    c.in-Ok.ensures.apart c.in-Ok.ensures.start c.in-Ok.ensures.rows (on-ok c.skip_rows.result _ ok c.skip_rows.ensures)
    (rw c.row_limit.ensures at c.write_rows.ensures.writes)

pub returns-then-is_err-clause-decisions : goal.returns-then-is_err-clause-decisions
returns-then-is_err-clause-decisions c = grind (arith, common_steps)

pub write_rows-requires : goal.write_rows-requires
write_rows-requires c = grind (arith, common_steps)

pub returns-clause-decisions : goal.returns-clause-decisions
returns-clause-decisions c = grind (arith, common_steps)
