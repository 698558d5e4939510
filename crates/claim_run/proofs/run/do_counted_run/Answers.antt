use Rattle.std.proofs.lemmas.Result.{err_from_is_err_and}
use Rattle.claim_run.specs.RunText.{run_texts}
use Rattle.claim_run.proofs.Remittances.{failed_by_plan, kept_by_plan, reason_of_plan}
use Rattle.claim_run.proofs.run.do_counted_run.Goals as goal

pub returns-clause-ordered : goal.returns-clause-ordered
returns-clause-ordered g c = c.run_plan-done.ensures.ordered

pub returns-in_err-plan-clause-reason : goal.returns-in_err-plan-clause-reason
returns-in_err-plan-clause-reason g c =
    let stopped = err_from_is_err_and c.from_residual.result c.from_residual.ensures.1 in
    rw stopped.1 (reason_of_plan (run_texts c.args.input) c.args.input.workers _ _ c.in_err-plan.ensures.refused stopped.2)

pub returns-in_err-plan-clause-stopped : goal.returns-in_err-plan-clause-stopped
returns-in_err-plan-clause-stopped g c =
    let stopped = err_from_is_err_and c.from_residual.result c.from_residual.ensures.1 in
    rw stopped.1 (kept_by_plan (run_texts c.args.input) _ _ _ stopped.2)

pub returns-in_err-plan-clause-failed : goal.returns-in_err-plan-clause-failed
returns-in_err-plan-clause-failed g c =
    let stopped = err_from_is_err_and c.from_residual.result c.from_residual.ensures.1 in
    rw stopped.1 (failed_by_plan _ _ _ stopped.2)
