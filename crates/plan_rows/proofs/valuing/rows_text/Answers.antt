use Rattle.std.proofs.lemmas.Result.{err_from_is_err_and}
use Rattle.plan_rows.proofs.RowRefusals.{refuses_plan}
use Rattle.plan_rows.proofs.valuing.rows_text.Goals as goal

pub returns-in_err-plan-clause-refused : goal.returns-in_err-plan-clause-refused
returns-in_err-plan-clause-refused c =
    let stopped = err_from_is_err_and c.from_residual.result c.from_residual.ensures.1 in
    rw stopped.1 (refuses_plan _ _ _ _ c.in_err-plan.ensures.refused stopped.2)
