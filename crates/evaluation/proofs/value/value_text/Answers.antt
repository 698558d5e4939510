use Rattle.std.proofs.lemmas.Result.{err_from_is_err_and, IfOk-weaker, IfErr-weaker}
use Rattle.evaluation.proofs.Refusals.{refuses_plan, refuses_spelled}
use Rattle.evaluation.proofs.value.value_text.Goals as goal

pub returns-in_err-plan-clause-refused : goal.returns-in_err-plan-clause-refused
returns-in_err-plan-clause-refused c =
    let stopped = err_from_is_err_and c.from_residual.result c.from_residual.ensures.1 in
    rw stopped.1 (refuses_plan _ _ _ _ c.in_err-plan.ensures.refused stopped.2)

pub returns-clause-text : goal.returns-clause-text
returns-clause-text c =
    IfOk-weaker c.plan_text-text.result _ _ (λ text is_text. record { plan = c.in_ok-plan.plan; spelled = c.in_ok-plan.ensures.plan; is_text = is_text }) c.plan_text-text.ensures.text

pub returns-clause-refused : goal.returns-clause-refused
returns-clause-refused c =
    IfErr-weaker c.plan_text-text.result _ _ (λ s refused. refuses_spelled _ _ c.in_ok-plan.plan s c.in_ok-plan.ensures.plan refused) c.plan_text-text.ensures.refused
