use Rattle.std.proofs.lemmas.Result.{err_from_is_err_and}
use Rattle.orders.specs.RunTexts.{AreTermsOfTexts}
use Rattle.claim_run.specs.RunText.{run_texts}
use Rattle.claim_run.proofs.OrderedRuns.{ordered_over}
use Rattle.claim_run.proofs.Remittances.{closed_over, counted_over, failed_by_terms, kept_by_terms, noted_over, reason_of_terms, reasons_over, stopped_over, whole_over}
use Rattle.claim_run.proofs.run.run_plan.Goals as goal

pub returns-in_err-terms-clause-reason : goal.returns-in_err-terms-clause-reason
returns-in_err-terms-clause-reason g c =
    let stopped = err_from_is_err_and c.from_residual.result c.from_residual.ensures.1 in
    rw stopped.1 (reason_of_terms (run_texts c.args.input) c.args.input.workers c.args.plan.now _ _ c.requires.spelled c.in_err-terms.ensures.fault stopped.2)

pub returns-in_err-terms-clause-stopped : goal.returns-in_err-terms-clause-stopped
returns-in_err-terms-clause-stopped g c =
    let stopped = err_from_is_err_and c.from_residual.result c.from_residual.ensures.1 in
    rw stopped.1 (kept_by_terms (run_texts c.args.input) _ _ _ stopped.2)

pub returns-in_err-terms-clause-failed : goal.returns-in_err-terms-clause-failed
returns-in_err-terms-clause-failed g c =
    let stopped = err_from_is_err_and c.from_residual.result c.from_residual.ensures.1 in
    rw stopped.1 (failed_by_terms _ _ _ stopped.2)

pub returns-clause-written : goal.returns-clause-written
returns-clause-written g c =
    let over : AreTermsOfTexts (run_texts c.args.input) c.in_ok-terms.terms = record {
      plan = c.args.plan.now;
      spelled = c.requires.spelled;
      are_terms = c.in_ok-terms.ensures.ok;
    } in
    whole_over (run_texts c.args.input) c.in_ok-terms.terms over _ _ c.write_remittance-done.result c.write_remittance-done.ensures.written

pub returns-clause-ordered : goal.returns-clause-ordered
returns-clause-ordered g c =
    let over : AreTermsOfTexts (run_texts c.args.input) c.in_ok-terms.terms = record {
      plan = c.args.plan.now;
      spelled = c.requires.spelled;
      are_terms = c.in_ok-terms.ensures.ok;
    } in
    ordered_over (run_texts c.args.input) c.in_ok-terms.terms c.args.order over c.in_ok-terms.ensures.order _ _ c.write_remittance-done.result c.write_remittance-done.ensures.ordered

pub returns-clause-counted : goal.returns-clause-counted
returns-clause-counted g c =
    let over : AreTermsOfTexts (run_texts c.args.input) c.in_ok-terms.terms = record {
      plan = c.args.plan.now;
      spelled = c.requires.spelled;
      are_terms = c.in_ok-terms.ensures.ok;
    } in
    counted_over (run_texts c.args.input) c.in_ok-terms.terms over _ _ _ c.write_remittance-done.result c.write_remittance-done.ensures.counted

pub returns-clause-reason : goal.returns-clause-reason
returns-clause-reason g c =
    let over : AreTermsOfTexts (run_texts c.args.input) c.in_ok-terms.terms = record {
      plan = c.args.plan.now;
      spelled = c.requires.spelled;
      are_terms = c.in_ok-terms.ensures.ok;
    } in
    reasons_over (run_texts c.args.input) c.in_ok-terms.terms over _ _ c.args.input.workers c.write_remittance-done.result c.write_remittance-done.ensures.stopped

pub returns-clause-stopped : goal.returns-clause-stopped
returns-clause-stopped g c =
    let over : AreTermsOfTexts (run_texts c.args.input) c.in_ok-terms.terms = record {
      plan = c.args.plan.now;
      spelled = c.requires.spelled;
      are_terms = c.in_ok-terms.ensures.ok;
    } in
    stopped_over (run_texts c.args.input) c.in_ok-terms.terms over _ _ c.args.input.workers c.write_remittance-done.result c.write_remittance-done.ensures.stopped

pub returns-clause-closed : goal.returns-clause-closed
returns-clause-closed g c =
    let over : AreTermsOfTexts (run_texts c.args.input) c.in_ok-terms.terms = record {
      plan = c.args.plan.now;
      spelled = c.requires.spelled;
      are_terms = c.in_ok-terms.ensures.ok;
    } in
    closed_over (run_texts c.args.input) c.in_ok-terms.terms over _ _ _ c.write_remittance-done.result c.write_remittance-done.ensures.closed

pub returns-clause-noted : goal.returns-clause-noted
returns-clause-noted g c =
    let over : AreTermsOfTexts (run_texts c.args.input) c.in_ok-terms.terms = record {
      plan = c.args.plan.now;
      spelled = c.requires.spelled;
      are_terms = c.in_ok-terms.ensures.ok;
    } in
    noted_over (run_texts c.args.input) c.in_ok-terms.terms over _ _ _ c.write_remittance-done.result c.write_remittance-done.ensures.noted
