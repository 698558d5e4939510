use Rattle.std.proofs.lemmas.Result.{err_from_is_err_and}
use Rattle.adjudicate.specs.OrderedTexts.{ordered_texts}
use Rattle.adjudicate.proofs.Audits.{reason_of_plan}
use Rattle.adjudicate.proofs.ordered.do_ordered_remittance.Goals as goal

pub returns-in_err-plan-clause-reason : goal.returns-in_err-plan-clause-reason
returns-in_err-plan-clause-reason c =
    let stopped = err_from_is_err_and c.from_residual.result c.from_residual.ensures.1 in
    rw stopped.1 (reason_of_plan (ordered_texts c.args.input) _ _ c.in_err-plan.ensures.refused stopped.2)
