use Rattle.remit_records.specs.Looked.{looked_up}
use Rattle.remit_records.proofs.Counting.{counted-done, counted-next, counted-none}
use Rattle.remit_records.proofs.RowSummaries.{nothing, reported}
use Rattle.remit_records.proofs.counts.count_rows.Goals as goal

pub loop-next-init : goal.loop-next-init
loop-next-init c = counted-none (looked_up c.args.decisions.now) c.args.provider c.args.rows _ c.new-file.ensures

pub returns-in_default-next : goal.returns-in_default-next
returns-in_default-next c =
    let none = nothing c.loop-next.rows c.next_summary.new.self c.next_summary.new.line (rw c.in_default-next.is at c.in-Ok.ensures.gives) in
    counted-done c.no_records_give_no_rows.ensures (looked_up c.args.decisions.now) c.args.provider c.args.rows c.loop-next.rows _ c.loop-next.invariant none.none none.head

pub loop-next-preserved : goal.loop-next-preserved
loop-next-preserved c =
    let row = reported c.loop-next.rows c.next_summary.new.self c.next_summary.new.line c.in-Some.summary (rw c.in-Some.is at c.in-Ok.ensures.gives) in
    counted-next c.given_row_is_the_first.ensures (looked_up c.args.decisions.now) c.args.provider c.args.rows c.loop-next.rows c.next_summary.new.self row.row
    _ _ c.loop-next.invariant row.gives row.head (c.in_ok-add.ensures _ row.row row.is_summary)
