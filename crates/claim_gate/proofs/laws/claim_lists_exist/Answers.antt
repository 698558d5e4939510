use Rattle.claim_gate.proofs.SomeTerms.{some_terms}
use Rattle.claim_gate.proofs.laws.claim_lists_exist.Goals as goal

pub returns : goal.returns
returns c = some_terms c.files_have_rows.ensures c.args.terms.now c.plan-plan.ensures.terms
