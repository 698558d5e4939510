use Rattle.std.proofs.lemmas.Result.{err_from_is_err_and}
use Rattle.adjudicate.specs.Audits.{audited_texts}
use Rattle.adjudicate.proofs.Audits.{audit_in_order, difference_of_result, differs_of_result, reason_of_memory, reason_of_terms, same_of_result}
use Rattle.adjudicate.proofs.audit.audit_plan.Goals as goal

pub returns-in_err-terms-clause-reason : goal.returns-in_err-terms-clause-reason
returns-in_err-terms-clause-reason c =
    let stopped = err_from_is_err_and c.from_residual.result c.from_residual.ensures.1 in
    rw stopped.1 (reason_of_terms (audited_texts c.args.input) c.args.plan.now _ _ c.requires.spelled c.in_err-terms.ensures.fault stopped.2)

pub returns-clause-same : goal.returns-clause-same
returns-clause-same c =
    same_of_result c.args.input.order (audited_texts c.args.input) c.args.plan.now c.requires.spelled c.in_ok-terms.terms c.in_ok-terms.ensures.ok c.args.input.remittance.now
    c.audit_terms-audit.result
    (audit_in_order c.args.input.order c.in_ok-terms.terms.order c.in_ok-terms.terms c.args.input.remittance.now c.audit_terms-audit.result c.in_ok-terms.ensures.order
    c.audit_terms-audit.ensures.audit)

pub returns-clause-differs : goal.returns-clause-differs
returns-clause-differs c =
    differs_of_result c.args.input.order (audited_texts c.args.input) c.args.plan.now c.requires.spelled c.in_ok-terms.terms c.in_ok-terms.ensures.ok c.args.input.remittance.now
    c.texts_have_one_remittance.ensures c.requires.ordered c.audit_terms-audit.result
    (audit_in_order c.args.input.order c.in_ok-terms.terms.order c.in_ok-terms.terms c.args.input.remittance.now c.audit_terms-audit.result c.in_ok-terms.ensures.order
    c.audit_terms-audit.ensures.audit)

pub returns-clause-difference : goal.returns-clause-difference
returns-clause-difference c =
    difference_of_result c.args.input.order (audited_texts c.args.input) c.args.plan.now c.requires.spelled c.in_ok-terms.terms c.in_ok-terms.ensures.ok c.args.input.remittance.now
    c.audit_terms-audit.result
    (audit_in_order c.args.input.order c.in_ok-terms.terms.order c.in_ok-terms.terms c.args.input.remittance.now c.audit_terms-audit.result c.in_ok-terms.ensures.order
    c.audit_terms-audit.ensures.audit)

pub returns-clause-reason : goal.returns-clause-reason
returns-clause-reason c = reason_of_memory (audited_texts c.args.input) c.audit_terms-audit.result c.audit_terms-audit.ensures.memory
