use Rattle.std.proofs.lemmas.Result.{err_from_is_err_and}
use Rattle.adjudicate.specs.OrderedTexts.{ordered_texts}
use Rattle.adjudicate.proofs.Audits.{reason_of_memory, reason_of_terms, remittance_of_result}
use Rattle.adjudicate.proofs.ordered.remittance_under.Goals as goal

pub returns-in_err-terms-clause-reason : goal.returns-in_err-terms-clause-reason
returns-in_err-terms-clause-reason c =
    let stopped = err_from_is_err_and c.from_residual.result c.from_residual.ensures.1 in
    rw stopped.1 (reason_of_terms (ordered_texts c.args.input) c.args.plan.now _ _ c.requires.spelled c.in_err-terms.ensures.fault stopped.2)

pub returns-clause-remittance : goal.returns-clause-remittance
returns-clause-remittance c =
    remittance_of_result c.args.input.order c.in_ok-terms.terms.order (ordered_texts c.args.input) c.args.plan.now c.requires.spelled c.in_ok-terms.terms c.in_ok-terms.ensures.ok
    c.in_ok-terms.ensures.order c.remittance_of-due.result c.remittance_of-due.ensures.due

pub returns-clause-reason : goal.returns-clause-reason
returns-clause-reason c = reason_of_memory (ordered_texts c.args.input) c.remittance_of-due.result c.remittance_of-due.ensures.memory
