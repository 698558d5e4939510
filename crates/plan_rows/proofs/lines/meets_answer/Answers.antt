use Rattle.std.proofs.Common.{inl, refl}
use Rattle.std.proofs.lemmas.Result.{IfOk-weaker}
use Rattle.plan_rows.proofs.RowLists.{empty_if, some_if}
use Rattle.plan_rows.proofs.RowValues.{expected_so}
use Rattle.plan_rows.proofs.lines.meets_answer.Goals as goal

pub returns-then-is_empty : goal.returns-then-is_empty
returns-then-is_empty c = (λ is. inl (empty_if c.args.field.now c.is_empty.result c.is_empty.ensures c.if-is_empty.true, tt), λ either. refl)

pub returns : goal.returns
returns c =
    let some = some_if c.args.field.now c.is_empty.result c.is_empty.ensures c.if-is_empty.false in
    IfOk-weaker c.is_answered.result _ _ (λ met same. expected_so c.args.field.now _ _ met some same) c.is_answered.ensures
