use Rattle.std.proofs.Common.{◌≡◌, true, false, refl, rules, subst, ◌∙◌, arith}
use Rattle.std.proofs.lemmas.Grind.{common_steps}
use Rattle.claim_gate.specs.Replies.{IsFiled}
use Rattle.claim_gate.specs.Terms.{ForTerms, TermsParts}
use Rattle.explanation.specs.Walking.{filed_in}
use Rattle.explanation.proofs.FamilyFacts.{AreExplained, explained_first, explained_other, explained_own, text_none, text_whole}
use Rattle.explanation.proofs.Settling.{carried, case_reached, settled_first, settled_other, settled_own}
use Rattle.explanation.proofs.family_facts.family_text.Goals as goal

pub claims-init : goal.claims-init
claims-init c =
    let terms = c.args.terms.now in
    let walk = c.in_ok-walk.walk in
    let begins = c.in_ok-walk.ensures in
    let starts = settled_first terms c.args.family.now walk.claims walk.position walk.lasts.items begins.start begins.position begins.lasts in
    let head = c.in_ok-text.ensures.items ∙ c.head_of.ensures in
    let plan : c.in_ok-adjudicator.adjudicator ≡ terms.plan = search rules in
    (explained_first terms c.args.family.now c.args.format walk.claims walk.position walk.lasts.items starts _ head, begins.readers, plan)

pub returns-then-not-is_found : goal.returns-then-not-is_found
returns-then-not-is_found c =
    let i = c.claims.invariant in
    let walk = c.claims.walk in
    let over = rw c.in-NoneLeft.is at c.in_ok-step.ensures.step in
    let none : c.claims.is_found ≡ false = search rules in
    text_none c.args.terms.now c.args.family.now c.args.format walk.claims c.step.new.self.claims walk.position walk.lasts.items c.claims.text.items c.claims.is_found i.0 over none

pub returns-in-NoneLeft : goal.returns-in-NoneLeft
returns-in-NoneLeft c =
    let i = c.claims.invariant in
    let walk = c.claims.walk in
    let over = rw c.in-NoneLeft.is at c.in_ok-step.ensures.step in
    let some : c.claims.is_found ≡ true = search rules in
    text_whole c.args.terms.now c.args.family.now c.args.format walk.claims c.step.new.self.claims walk.position walk.lasts.items c.claims.text.items c.claims.is_found i.0 over some

pub claims-preserved-in-Other : goal.claims-preserved-in-Other
claims-preserved-in-Other c =
    let i = c.claims.invariant in
    let terms = c.args.terms.now in
    let family = c.args.family.now in
    let old = c.claims.walk in
    let new = c.step.new.self in
    let text = c.claims.text.items in
    let found = c.claims.is_found in
    let r = rw c.in-Other.is at c.in_ok-step.ensures.step in
    let next = r.passes.next in
    let located = subst (λ (parts : TermsParts). ForTerms parts (λ T. IsFiled T r.offer)) i.0.settled.terms next.filed in
    let goes = settled_other terms family old.claims old.position old.lasts.items i.0.settled c.requires c.due_claim_stays_in_order.ensures new.claims r.offer next r.other in
    let explained = explained_other terms family c.args.format old.claims old.position old.lasts.items text found i.0 new.claims r.offer old.lasts.items goes located r.other in (
      carried (λ n ls. AreExplained terms family c.args.format new.claims n ls text found) old.position new.position old.lasts.items new.lasts.items r.passes.position r.lasts explained,
      c.in_ok-step.ensures.readers,
      c.in_ok-step.ensures.plan ∙ i.2,
    )

pub append_reached-requires-clause-likely : goal.append_reached-requires-clause-likely
append_reached-requires-clause-likely c =
    let i = c.claims.invariant in
    let reached = c.in-OfFamily.reached in
    let r = rw c.in-OfFamily.is at c.in_ok-step.ensures.step in
    let located = subst (λ (parts : TermsParts). ForTerms parts (λ T. IsFiled T reached.offer)) i.0.settled.terms r.passes.next.filed in
    c.claims_fit.ensures (filed_in reached.offer) reached.offer.claim located

pub claims-preserved : goal.claims-preserved
claims-preserved c =
    let i = c.claims.invariant in
    let terms = c.args.terms.now in
    let family = c.args.family.now in
    let old = c.claims.walk in
    let new = c.step.new.self in
    let text = c.claims.text.items in
    let found = c.claims.is_found in
    let reached = c.in-OfFamily.reached in
    let r = rw c.in-OfFamily.is at c.in_ok-step.ensures.step in
    let next = r.passes.next in
    let located = subst (λ (parts : TermsParts). ForTerms parts (λ T. IsFiled T reached.offer)) i.0.settled.terms next.filed in
    let known = case_reached terms family old.claims old.position old.lasts.items i.0.settled c.requires c.due_claim_stays_in_order.ensures new.claims reached.offer next reached.number r.own r.number
    new.lasts.items reached.case r.settled in
    let goes = settled_own terms family old.claims old.position old.lasts.items i.0.settled c.requires c.due_claim_stays_in_order.ensures new.claims reached.offer next reached.number r.own r.number
    new.lasts.items reached.case r.settled in
    let explained = explained_own terms family c.args.format old.claims old.position old.lasts.items text found i.0 new.claims reached.offer new.lasts.items goes located r.own reached.number reached.case r.number known
    _ c.in_ok-append_reached-in-OfFamily.ensures.text in (
      carried (λ n ls. AreExplained terms family c.args.format new.claims n ls c.append_reached.new.text.items true) old.position new.position new.lasts.items new.lasts.items r.passes.position refl explained,
      c.in_ok-step.ensures.readers,
      c.in_ok-append_reached-in-OfFamily.ensures.plan ∙ (c.in_ok-step.ensures.plan ∙ i.2),
    )

pub append_reached-requires-clause-plan : goal.append_reached-requires-clause-plan
append_reached-requires-clause-plan c = c.in_ok-step.ensures.plan ∙ c.claims.invariant.2

pub step-requires-clause-terms : goal.step-requires-clause-terms
step-requires-clause-terms c = grind (arith, common_steps)

pub step-requires-clause-fit : goal.step-requires-clause-fit
step-requires-clause-fit c = grind (arith, common_steps)

pub step-requires-clause-readers : goal.step-requires-clause-readers
step-requires-clause-readers c = grind (arith, common_steps)

pub claims-smaller : goal.claims-smaller
claims-smaller c = grind (arith, common_steps)

pub step-requires-clause-plan : goal.step-requires-clause-plan
step-requires-clause-plan c = grind (arith, common_steps)

pub claims-smaller-in-Other : goal.claims-smaller-in-Other
claims-smaller-in-Other c = grind (arith, common_steps)
