use Rattle.std.proofs.Common.{arith}
use Rattle.std.proofs.lemmas.Grind.{common_steps}
use Rattle.std.proofs.lemmas.Result.{IfOk-weaker}
use Rattle.explanation.specs.Cases.{filed_of}
use Rattle.explanation.proofs.claim_facts.facts_of_claim.Goals as goal

pub facts_of_case-requires-clause-likely : goal.facts_of_case-requires-clause-likely
facts_of_case-requires-clause-likely c = c.claims_fit.ensures (filed_of c.args.wanted.now) c.args.wanted.now.claim.now c.requires.there

pub returns : goal.returns
returns c =
    IfOk-weaker c.facts_of_case.result _ _
    (λ facts made T is. record { case = c.in_ok-case.case; is_case = c.in_ok-case.ensures.case T is; facts_are = made })
    c.facts_of_case.ensures.facts

pub find_case-requires-clause-plan : goal.find_case-requires-clause-plan
find_case-requires-clause-plan c = grind (arith, common_steps)

pub facts_of_case-requires-clause-plan : goal.facts_of_case-requires-clause-plan
facts_of_case-requires-clause-plan c = grind (arith, common_steps)
