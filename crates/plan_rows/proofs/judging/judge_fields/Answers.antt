use Rattle.std.proofs.Common.{inr, arith}
use Rattle.std.proofs.lemmas.Grind.{common_steps}
use Rattle.std.proofs.lemmas.Result.{IfOk-weaker}
use Rattle.plan_rows.proofs.Readings.{readable_within}
use Rattle.plan_rows.proofs.Rows.{judged_unread}
use Rattle.plan_rows.proofs.judging.judge_fields.Goals as goal

pub unread_row-requires : goal.unread_row-requires
unread_row-requires c =
    let bad = rw c.in-Some.is at c.in_ok-place.ensures.unreadable in
    readable_within c.args.columns.now _ bad.present

pub returns-in-Some : goal.returns-in-Some
returns-in-Some c =
    let bad = rw c.in-Some.is at c.in_ok-place.ensures.unreadable in
    IfOk-weaker c.unread_row.result _ _ (λ judged by. judged_unread _ _ _ _ _ judged c.requires.width (inr bad) by) c.unread_row.ensures

pub judge_readable-requires-clause-readable : goal.judge_readable-requires-clause-readable
judge_readable-requires-clause-readable c = rw c.in_default.is at c.in_ok-place.ensures.readable

pub judge_readable-requires-clause-apart : goal.judge_readable-requires-clause-apart
judge_readable-requires-clause-apart c = grind (arith, common_steps)
