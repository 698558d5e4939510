use Rattle.std.proofs.Common.{◌≡◌, ◌≤◌, ◌-◌, arith}
use Rattle.std.proofs.lemmas.Grind.{common_steps}
use Rattle.std.proofs.lemmas.Result.{IfOk-weaker}
use Rattle.explanation.proofs.Rows.{last_row, no_row, past_more, past_none}
use Rattle.explanation.proofs.row.find_row.Goals as goal

pub loop-init : goal.loop-init
loop-init c = past_none c.reader_begins_with_all_rows.ensures _ _ c.in_ok-rows.rows c.in_ok-rows.ensures.start c.in_ok-rows.ensures.apart

pub loop-preserved : goal.loop-preserved
loop-preserved c =
    let gives = rw c.in-Some.is at c.in_ok-row.ensures.gives in
    past_more c.given_row_is_the_first.ensures _ _ c.loop.counter c.loop.rows c.next.new.self c.loop.invariant c.in-Some.row gives

pub returns-in_default : goal.returns-in_default
returns-in_default c =
    let gives = rw c.in_default.is at c.in_ok-row.ensures.gives in
    let within : c.loop.counter ≤ c.args.place.number - 1 = grind (arith, common_steps) in
    no_row c.given_row_is_the_first.ensures _ _ c.loop.counter c.loop.rows c.next.new.self c.loop.invariant c.no_records_give_no_rows.ensures gives.0 c.args.place.number within

pub returns : goal.returns
returns c =
    let end : c.loop.counter ≡ c.args.place.number - 1 = grind (arith, common_steps) in
    IfOk-weaker c.next-2.result _ _
    (λ found gives. last_row c.given_row_is_the_first.ensures _ _ c.loop.counter c.loop.rows c.next-2.new.self c.loop.invariant c.no_records_give_no_rows.ensures c.args.place.number end found gives)
    c.next-2.ensures.gives
