use Rattle.remit_records.specs.Looked.{looked_up}
use Rattle.run_lists.proofs.NotesWalking.{noted-done, noted-next, noted-none}
use Rattle.run_lists.proofs.notes.note_rows.Goals as goal

pub loop-next-init : goal.loop-next-init
loop-next-init c = noted-none (looked_up c.args.decisions.now) c.args.provider c.args.rows c.args.notes.now.items

pub returns-in_default-next : goal.returns-in_default-next
returns-in_default-next c =
    let gives = rw c.in_default-next.is at c.in-Ok.ensures.gives in
    let head = rw c.in_default-next.is at c.in-Ok.ensures.head in
    noted-done c.no_records_give_no_rows.ensures (looked_up c.args.decisions.now) c.args.provider c.args.rows c.loop-next.rows _ _ c.loop-next.invariant gives.0 head

pub loop-next-preserved : goal.loop-next-preserved
loop-next-preserved c =
    let gives = rw c.in-Some.is at c.in-Ok.ensures.gives in
    let head = rw c.in-Some.is at c.in-Ok.ensures.head in
    noted-next c.given_row_is_the_first.ensures (looked_up c.args.decisions.now) c.args.provider c.args.rows c.loop-next.rows c.next.new.self c.in-Some.row _ _ _
    c.loop-next.invariant gives head c.in_ok-note_row.ensures

pub loop-next-preserved-in_ok-note_row : goal.loop-next-preserved-in_ok-note_row
loop-next-preserved-in_ok-note_row c =
    let gives = rw c.in-Some.is at c.in-Ok.ensures.gives in
    let head = rw c.in-Some.is at c.in-Ok.ensures.head in
    noted-next c.given_row_is_the_first.ensures (looked_up c.args.decisions.now) c.args.provider c.args.rows c.loop-next.rows c.next.new.self c.in-Some.row _ _ _
    c.loop-next.invariant gives head c.in_ok-note_row.ensures
