use Rattle.std.proofs.Common.{arith}
use Rattle.std.proofs.lemmas.Grind.{elements}
use Rattle.std.proofs.lemmas.Result.{on_ok_weaker}
use Rattle.csv.specs.Records.{fields_of}
use Rattle.plan_rows.proofs.Givens.{row_is_ready}
use Rattle.plan_rows.proofs.RowRecords.{ends_unread, ends_valued}
use Rattle.plan_rows.proofs.valued_row.push_fields_end.Goals as goal

pub push_value-requires-clause-ready : goal.push_value-requires-clause-ready
push_value-requires-clause-ready c =
    let gives = rw (c.in-Ok.is, c.plan.ensures) at c.in_ok-inputs.ensures.given in
    row_is_ready c.args.plan.now c.args.columns.now (fields_of c.args.row.now) _ c.requires.needed gives

pub returns-in-Ok : goal.returns-in-Ok
returns-in-Ok c =
    let gives = rw (c.in-Ok.is, c.plan.ensures) at c.in_ok-inputs.ensures.given in
    on_ok_weaker c.push_value.result
    (ends_valued c.args.plan.now c.args.columns.now (fields_of c.args.row.now) c.args.line.now _ _ c.requires.sound c.requires.needed gives) c.push_value.ensures

pub returns-in-Err : goal.returns-in-Err
returns-in-Err c =
    let unread = rw (c.in-Err.is, c.plan.ensures) at c.in_ok-inputs.ensures.unread in
    let first = rw (c.in-Err.is, c.plan.ensures) at c.in_ok-inputs.ensures.first in
    on_ok_weaker c.push_unread.result (ends_unread c.args.plan.now c.args.columns.now (fields_of c.args.row.now) c.args.line.now _ _ unread first) c.push_unread.ensures

pub push_unread-requires-clause-within : goal.push_unread-requires-clause-within
push_unread-requires-clause-within c = grind (arith, elements)
