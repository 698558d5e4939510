use Rattle.std.proofs.Common.{arith}
use Rattle.std.proofs.lemmas.Grind.{common_steps}
use Rattle.remit.proofs.Limiting.{skipped-next}
use Rattle.remit_records.proofs.RowSummaries.{reported}
use Rattle.remit.proofs.sections.skip_rows.Goals as goal

pub loop-preserved : goal.loop-preserved
loop-preserved c =
    let row = reported c.loop.rows c.next_summary.new.self c.next_summary.new.line c.in-Some.field-0 (rw c.in-Some.is at c.in_ok-next.ensures.gives) in
    skipped-next c.given_row_is_the_first.ensures c.args.rows.now c.loop.rows c.next_summary.new.self c.loop.counter row.row c.loop.invariant row.gives row.head

pub returns : goal.returns
returns c = grind (arith, common_steps)

pub returns-in_default : goal.returns-in_default
returns-in_default c = grind (arith, common_steps)
