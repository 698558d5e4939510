use Rattle.std.proofs.Common.{refl, ◌∙◌, arith}
use Rattle.std.proofs.lemmas.Grind.{common_steps}
use Rattle.std.proofs.lemmas.Result.{err_from_is_err_and}
use Rattle.remit_records.specs.RecordWriter.{at}
use Rattle.remit_records.specs.Looked.{looked_up}
use Rattle.remit.proofs.Limiting.{rows-done, rows-full, rows-next, rows-no-memory, rows-none, rows-refused}
use Rattle.remit_records.proofs.RowSummaries.{nothing, reported}
use Rattle.remit.proofs.report.Report.write_rows.Goals as goal

pub loop-left-init : goal.loop-left-init
loop-left-init g c = record { so_far = rows-none (looked_up c.args.self.now.decisions.now) c.args.provider c.args.limit c.args.rows _; decisions = refl }

pub returns-then-is_zero-clause-writes : goal.returns-then-is_zero-clause-writes
returns-then-is_zero-clause-writes g c =
    rows-full (looked_up c.args.self.now.decisions.now) c.args.provider c.args.limit c.loop-left.left c.args.rows c.loop-left.rows _ (at _ _ c.loop-left.self.writer)
    c.loop-left.invariant.so_far (rw c.if-is_zero.true at c.is_zero.ensures.yes)

pub returns-in_default-clause-writes : goal.returns-in_default-clause-writes
returns-in_default-clause-writes g c =
    rows-no-memory (looked_up c.args.self.now.decisions.now) c.args.provider c.args.limit c.loop-left.left c.args.rows c.loop-left.rows _ _ _ c.loop-left.self.writer c.no_memory.result
    c.loop-left.invariant.so_far (record { written = c.no_memory.ensures.written; cause = c.no_memory.ensures.cause })

pub returns-in_default-next-clause-writes : goal.returns-in_default-next-clause-writes
returns-in_default-next-clause-writes g c =
    let none = nothing c.loop-left.rows c.next_summary.new.self c.next_summary.new.line (rw c.in_default-next.is at c.in-Ok.ensures.gives) in
    rows-done c.no_records_give_no_rows.ensures (looked_up c.args.self.now.decisions.now) c.args.provider c.args.limit c.loop-left.left c.args.rows c.loop-left.rows _ (at _ _ c.loop-left.self.writer)
    c.loop-left.invariant.so_far none.none none.head

pub returns-in_err-write_row-clause-writes : goal.returns-in_err-write_row-clause-writes
returns-in_err-write_row-clause-writes g c =
    let p = err_from_is_err_and c.from_residual.result c.from_residual.ensures.1 in
    let so_far = c.loop-left.invariant in
    let row = reported c.loop-left.rows c.next_summary.new.self c.next_summary.new.line c.in-Some.summary (rw c.in-Some.is at c.in-Ok.ensures.gives) in
    rw (p.1, p.2)
    (rows-refused c.given_row_is_the_first.ensures (looked_up c.args.self.now.decisions.now) c.args.provider c.args.limit c.loop-left.left c.args.rows c.loop-left.rows c.next_summary.new.self row.row
    _ (at _ _ c.loop-left.self.writer) (at _ _ c.write_row.new.self.writer) c.in_err-write_row.field-0.0 so_far.so_far (rw c.if-is_zero.false at c.is_zero.ensures.no) row.gives
    row.head (rw so_far.decisions at (c.in_err-write_row.ensures.writes row.row row.is_summary)))

pub loop-left-preserved : goal.loop-left-preserved
loop-left-preserved g c =
    let so_far = c.loop-left.invariant in
    let row = reported c.loop-left.rows c.next_summary.new.self c.next_summary.new.line c.in-Some.summary (rw c.in-Some.is at c.in-Ok.ensures.gives) in
    record {
      so_far =
          rows-next c.given_row_is_the_first.ensures (looked_up c.args.self.now.decisions.now) c.args.provider c.args.limit c.loop-left.left c.one_less-left.result c.args.rows c.loop-left.rows c.next_summary.new.self row.row
          _ (at _ _ c.loop-left.self.writer) (at _ _ c.write_row.new.self.writer) so_far.so_far (rw c.if-is_zero.false at c.is_zero.ensures.no) c.one_less-left.ensures row.gives
          row.head (rw so_far.decisions at (c.in_ok-write_row.ensures.writes row.row row.is_summary));
      decisions = c.in_ok-write_row.ensures.decisions ∙ so_far.decisions;
    }

pub returns-then-is_zero-clause-decisions : goal.returns-then-is_zero-clause-decisions
returns-then-is_zero-clause-decisions c = grind (arith, common_steps)

pub returns-in_default-next-clause-decisions : goal.returns-in_default-next-clause-decisions
returns-in_default-next-clause-decisions c = grind (arith, common_steps)

pub returns-in_default-clause-decisions : goal.returns-in_default-clause-decisions
returns-in_default-clause-decisions c = grind (arith, common_steps)

pub write_row-requires : goal.write_row-requires
write_row-requires c = grind (arith, common_steps)
