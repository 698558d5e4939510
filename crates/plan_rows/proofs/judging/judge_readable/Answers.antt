use Rattle.std.proofs.Common.{inl}
use Rattle.std.proofs.lemmas.Result.{IfOk-weaker}
use Rattle.plan_rows.proofs.Givens.{given_within, gives_read, row_is_ready}
use Rattle.plan_rows.proofs.Rows.{judged_unread}
use Rattle.plan_rows.proofs.judging.judge_readable.Goals as goal

pub judge_inputs-requires : goal.judge_inputs-requires
judge_inputs-requires c =
    let gives = rw c.in-Ok.is at c.in_ok-inputs.ensures.given in
    record { width = c.requires.width; readable = c.requires.readable; gives = gives; ready = row_is_ready c.args.plan.now _ _ _ (gives_read c.args.plan.now c.args.columns.now c.requires.needed) gives }

pub unread_row-requires : goal.unread_row-requires
unread_row-requires c =
    let unread = rw c.in-Err.is at c.in_ok-inputs.ensures.unread in
    given_within _ _ _ unread.given

pub returns-in-Err : goal.returns-in-Err
returns-in-Err c =
    let unread = rw c.in-Err.is at c.in_ok-inputs.ensures.unread in
    IfOk-weaker c.unread_row.result _ _ (λ judged by. judged_unread _ _ _ _ _ judged c.requires.width (inl unread) by) c.unread_row.ensures
