use Rattle.explanation.proofs.Fields.{likely}
use Rattle.explanation.proofs.claim_facts.claims_fit.Goals as goal

pub returns : goal.returns
returns c = λ filed claim there.
    let sound = rw c.plan.ensures.plan at c.names-names.ensures.sound in
    likely c.claims_have_the_plan_s_fields.ensures c.args.terms.now filed claim sound there c.claim_lists_exist.ensures
