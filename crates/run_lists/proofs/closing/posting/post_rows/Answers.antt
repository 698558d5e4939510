use Rattle.std.proofs.Common.{}
use Rattle.remit_records.specs.Looked.{looked_up}
use Rattle.run_lists.specs.Entries.{entries_of}
use Rattle.run_lists.proofs.Walking.{posted-done, posted-next, posted-none}
use Rattle.run_lists.proofs.closing.posting.post_rows.Goals as goal

pub loop-next-init : goal.loop-next-init
loop-next-init c = posted-none c.args.terms.now.plan (looked_up c.args.decisions.now) c.args.provider c.args.rows (entries_of c.args.closing.now)

pub returns-in_default-next : goal.returns-in_default-next
returns-in_default-next c =
    let gives = rw c.in_default-next.is at c.in-Ok.ensures.gives in
    let head = rw c.in_default-next.is at c.in-Ok.ensures.head in
    posted-done c.no_records_give_no_rows.ensures c.args.terms.now.plan (looked_up c.args.decisions.now) c.args.provider c.args.rows c.loop-next.rows _ _ c.loop-next.invariant gives.0 head

pub loop-next-preserved : goal.loop-next-preserved
loop-next-preserved c =
    let gives = rw c.in-Some.is at c.in-Ok.ensures.gives in
    let head = rw c.in-Some.is at c.in-Ok.ensures.head in
    posted-next c.given_row_is_the_first.ensures c.args.terms.now.plan (looked_up c.args.decisions.now) c.args.provider c.args.rows c.loop-next.rows c.next.new.self c.in-Some.row _ _ _
    c.loop-next.invariant gives head c.in_ok-post_row.ensures
