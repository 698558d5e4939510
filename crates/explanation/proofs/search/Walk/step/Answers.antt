use Rattle.std.proofs.Common.{rules, subst, arith}
use Rattle.std.proofs.lemmas.Grind.{common_steps}
use Rattle.claim_gate.specs.Replies.{IsFiled}
use Rattle.claim_gate.specs.Terms.{ForTerms, TermsParts}
use Rattle.explanation.specs.Walking.{filed_in}
use Rattle.explanation.proofs.search.Walk.step.Goals as goal

pub case_of-requires-clause-likely : goal.case_of-requires-clause-likely
case_of-requires-clause-likely c =
    let terms = c.args.terms.now in
    let offer = c.in-Some.offer in
    let gives = rw c.in-Some.is at c.in_ok-offer.ensures.gives in
    let located = subst (λ (parts : TermsParts). ForTerms parts (λ T. IsFiled T offer)) c.requires.terms gives.filed in
    rw c.as_claim-claim.ensures (c.requires.fit (filed_in offer) offer.claim located)

pub returns-then-ne-clause-step : goal.returns-then-ne-clause-step
returns-then-ne-clause-step c = search rules

pub returns-clause-step : goal.returns-clause-step
returns-clause-step c = search rules

pub number_of-requires-clause-most : goal.number_of-requires-clause-most
number_of-requires-clause-most c = grind (arith, common_steps)

pub returns-in_default-clause-readers : goal.returns-in_default-clause-readers
returns-in_default-clause-readers c = grind (arith, common_steps)

pub number_of-requires-clause-least : goal.number_of-requires-clause-least
number_of-requires-clause-least c = grind (arith, common_steps)

pub returns-in_default-clause-plan : goal.returns-in_default-clause-plan
returns-in_default-clause-plan c = grind (arith, common_steps)

pub returns-then-ne-clause-plan : goal.returns-then-ne-clause-plan
returns-then-ne-clause-plan c = grind (arith, common_steps)

pub returns-clause-plan : goal.returns-clause-plan
returns-clause-plan c = grind (arith, common_steps)

pub returns-in_default-clause-step : goal.returns-in_default-clause-step
returns-in_default-clause-step c = grind (arith, common_steps)
