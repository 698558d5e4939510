use Rattle.std.proofs.lemmas.Result.{on_ok_weaker}
use Rattle.plan_rows.proofs.RowRecords.{faulty_pushed}
use Rattle.plan_rows.proofs.valued_row.push_faulty.Goals as goal

pub returns : goal.returns
returns c =
    on_ok_weaker c.push.result
    (λ last. faulty_pushed c.args.plan.now.tables c.args.places.now c.requires.placed c.args.line.now _ _ c.args.fault.now c.in_ok-push_empty.ensures last) c.push.ensures
