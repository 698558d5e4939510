use Rattle.std.proofs.Common.{inl, refl}
use Rattle.std.proofs.lemmas.Result.{IfOk-weaker}
use Rattle.plan_rows.proofs.Readings.{filled_so}
use Rattle.plan_rows.proofs.RowLists.{empty_if, some_if}
use Rattle.plan_rows.proofs.readable.is_readable.Goals as goal

pub returns-then-is_empty : goal.returns-then-is_empty
returns-then-is_empty c = (λ is. inl (empty_if c.args.field.now c.is_empty.result c.is_empty.ensures c.if-is_empty.true), λ readable. refl)

pub returns : goal.returns
returns c =
    let some = some_if c.args.field.now c.is_empty.result c.is_empty.ensures c.if-is_empty.false in
    IfOk-weaker c.is_readable_as.result _ _ (λ is same. filled_so c.args.field.now _ is some same) c.is_readable_as.ensures
