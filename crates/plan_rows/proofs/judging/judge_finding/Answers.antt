use Rattle.std.proofs.Common.{sym}
use Rattle.plan_rows.proofs.RowLists.{empty_if, some_if}
use Rattle.plan_rows.proofs.Rows.{judged_right, judged_wrong}
use Rattle.plan_rows.proofs.judging.judge_finding.Goals as goal

pub returns-then-is_empty : goal.returns-then-is_empty
returns-then-is_empty c =
    let none = empty_if c.in_ok-text.text.items c.is_empty.result (rw c.as_slice.ensures.value at c.is_empty.ensures) c.if-is_empty.true in
    judged_right _ _ _ _ _ _
    (record { given = c.args.inputs.now; has = c.requires.values; is_finding = record { tables = sym c.in_ok-tables.ensures; settled = c.requires.settled } }) c.in_ok-text.ensures none

pub returns : goal.returns
returns c =
    let some = some_if c.in_ok-text.text.items c.is_empty.result (rw c.as_slice.ensures.value at c.is_empty.ensures) c.if-is_empty.false in
    judged_wrong _ _ _ _ _ _
    (record { given = c.args.inputs.now; has = c.requires.values; is_finding = record { tables = sym c.in_ok-tables.ensures; settled = c.requires.settled } }) c.in_ok-text.ensures some
