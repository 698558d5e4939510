use Rattle.std.proofs.Common.{◌≡◌, rules}
use Rattle.value_command.proofs.Ends.{unjudged_not_done, unjudged_not_refused}
use Rattle.value_command.proofs.value.value_of.Goals as goal

pub returns-clause-done : goal.returns-clause-done
returns-clause-done g c =
    let same : c.as_slice.result.now ≡ c.in-Ok.plan.items = search rules in
    λ is_done. record { plan = c.as_slice.result.now; named = rw same c.in-Ok.ensures.named; has_text = c.value_plan.ensures.done is_done }

pub returns-clause-refused : goal.returns-clause-refused
returns-clause-refused g c =
    let same : c.as_slice.result.now ≡ c.in-Ok.plan.items = search rules in
    λ is_refused. record { plan = c.as_slice.result.now; named = rw same c.in-Ok.ensures.named; refused = c.value_plan.ensures.refused (λ is_done. cc (is_done, is_refused)) }

pub returns-in-Err-clause-done : goal.returns-in-Err-clause-done
returns-in-Err-clause-done g c = λ is_done. absurd (unjudged_not_done _ c.in-Err.ensures.failed is_done)

pub returns-in-Err-clause-refused : goal.returns-in-Err-clause-refused
returns-in-Err-clause-refused g c = λ is_refused. absurd (unjudged_not_refused _ c.in-Err.ensures.failed is_refused)
