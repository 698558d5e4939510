use Rattle.std.proofs.Common.{Some, ap, sym, ◌∙◌, arith}
use Rattle.std.proofs.lemmas.Grind.{common_steps, elements}
use Rattle.feel_tests.specs.Value.{kind_of}
use Rattle.tables.specs.declared.table.InputData.{InputData}
use Rattle.plan_rows.proofs.Claims.{fields_more}
use Rattle.plan_rows.proofs.filing.fields_at.Goals as goal

pub loop-index-preserved : goal.loop-index-preserved
loop-index-preserved c =
    let value = rw c.in-Some.is at c.value_of_kind.ensures.value in
    let kind = rw c.in-Some.is at c.value_of_kind.ensures.kind in
    let copy = c.in_ok-duplicate.ensures in
    fields_more c.args.given.now _ c.loop-index.index c.fields_of-inputs.result.now c.index-inputs-index.result _ _ _ c.loop-index-test.true c.in_ok-push.ensures.ok
    (value ∙ ap Some (sym copy)) (ap kind_of copy ∙ kind ∙ ap (λ (d : InputData). d.kind) c.index-inputs-index.is) c.loop-index.invariant

pub returns-in_default-clause-unfit : goal.returns-in_default-clause-unfit
returns-in_default-clause-unfit c = grind (arith, elements)

pub returns-clause-fields : goal.returns-clause-fields
returns-clause-fields c = grind (arith, common_steps)

pub overflow_add-result : goal.overflow_add-result
overflow_add-result c = grind (arith, common_steps)

pub overflow_add-first-in-loop-index : goal.overflow_add-first-in-loop-index
overflow_add-first-in-loop-index c = grind (arith, common_steps)
