use Rattle.std.proofs.lemmas.Result.{on_ok_weaker}
use Rattle.plan_rows.proofs.RowRecords.{env_tables, valued_pushed}
use Rattle.plan_rows.proofs.valued_row.push_value.Goals as goal

pub returns-in_ok-push_answers-in-Ok : goal.returns-in_ok-push_answers-in-Ok
returns-in_ok-push_answers-in-Ok c =
    let value = rw c.in-Ok.is at c.in_ok-values.ensures in
    on_ok_weaker c.push.result
    (λ last. rw value (valued_pushed c.args.plan.now.tables c.args.places.now c.requires.placed c.args.line.now _ _ c.in-Ok.values (env_tables c.args.plan.now c.args.inputs.now _ value) c.in_ok-push_answers-in-Ok.ensures last))
    c.push.ensures
