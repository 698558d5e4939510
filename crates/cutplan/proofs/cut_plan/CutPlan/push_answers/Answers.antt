use Rattle.std.proofs.lemmas.Grind.{common_steps, elements}
use Rattle.std.proofs.Common.{[], arith}
use Rattle.std.proofs.lemmas.Result.{err_from_is_err_and}
use Rattle.tables.specs.Environment.{answers_of}
use Rattle.cutplan.proofs.Valuing.{one_more_answers, fault_of_table}
use Rattle.cutplan.proofs.cut_plan.CutPlan.push_answers.Goals as goal

pub returns-in_err-next : goal.returns-in_err-next
returns-in_err-next c =
    let tables = c.args.tables.now in
    let p = err_from_is_err_and c.from_residual.result c.from_residual.ensures.1 in
    let reported = fault_of_table c.args.given.now c.loop-place.answers c.as_slice.result.now tables c.loop-place.place c.index-tables-place.result c.in_err-next.field-0.0
    (answers_of c.args.given.now [] tables) c.loop-place-test.true c.index-tables-place.is c.as_slice.ensures c.in_err-next.ensures c.loop-place.invariant in
    record { answers = rw p.1 tt; fault = rw (p.1, p.2) reported }

pub loop-place-preserved : goal.loop-place-preserved
loop-place-preserved c =
    let tables = c.args.tables.now in
    one_more_answers c.args.given.now c.loop-place.answers c.as_slice.result.now c.push.new.self tables c.loop-place.place c.index-tables-place.result c.in_ok-next.next
    (answers_of c.args.given.now [] tables) c.loop-place-test.true c.index-tables-place.is c.as_slice.ensures c.in_ok-next.ensures c.in_ok-push.ensures.ok c.loop-place.invariant

pub returns-clause-answers : goal.returns-clause-answers
returns-clause-answers c = grind (arith, common_steps)

pub table_value-requires : goal.table_value-requires
table_value-requires c = grind (arith, elements)
