use Rattle.std.proofs.Common.{sym, subst, ◌∙◌}
use Rattle.orders.specs.Remittance.{IsOrderedRemittanceOf}
use Rattle.adjudicate.proofs.audit.audit_terms.Goals as goal

pub returns-in-Some-clause-audit : goal.returns-in-Some-clause-audit
returns-in-Some-clause-audit c =
    let same = c.as_slice.ensures.value in
    (c.in_ok-due.ensures, rw same at c.in-Some.ensures.same, rw same at c.in-Some.ensures.first)

pub returns-in-None-clause-audit : goal.returns-in-None-clause-audit
returns-in-None-clause-audit c =
    let parts = c.args.terms.now in
    subst (IsOrderedRemittanceOf parts.order parts) (sym (c.in-None.ensures.same ∙ c.as_slice.ensures.value)) c.in_ok-due.ensures
