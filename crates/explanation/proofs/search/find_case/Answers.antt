use Rattle.std.proofs.Common.{refl, subst, sym, ◌∙◌, arith}
use Rattle.std.proofs.lemmas.Grind.{common_steps}
use Rattle.settlement.specs.Accounts.{family_of}
use Rattle.claim_gate.specs.Replies.{IsFiled}
use Rattle.claim_gate.specs.Terms.{ForTerms, TermsParts}
use Rattle.explanation.specs.Walking.{AreSettled}
use Rattle.explanation.proofs.Settling.{at_other, at_wanted, carried, case_reached, case_wanted, not_given, not_over, not_wanted, settled_first, settled_other, settled_own}
use Rattle.explanation.proofs.search.find_case.Goals as goal

pub claims-init : goal.claims-init
claims-init c =
    let wanted = c.args.wanted.now in
    let walk = c.in_ok-walk.walk in
    let begins = c.in_ok-walk.ensures in
    let starts = settled_first c.args.terms.now (family_of wanted.claim.now) walk.claims walk.position walk.lasts.items begins.start begins.position begins.lasts in
    let given = begins.start.none wanted.provider in
    (starts.settled, begins.readers, omega (arith, given), c.requires.plan)

pub unreachable-requires : goal.unreachable-requires
unreachable-requires c =
    let i = c.claims.invariant in
    let terms = c.args.terms.now in
    let wanted = c.args.wanted.now in
    let walk = c.claims.walk in
    let over = rw c.in-NoneLeft.is at c.in_ok-step.ensures.step in
    not_over terms (family_of wanted.claim.now) walk.claims walk.position walk.lasts.items i.0 c.requires.ordered c.due_claim_stays_in_order.ensures c.step.new.self.claims wanted over c.requires.least c.requires.most
    c.requires.there i.2 c.claim_lists_exist.ensures

pub returns-then-is_at-clause-case : goal.returns-then-is_at-clause-case
returns-then-is_at-clause-case c =
    let i = c.claims.invariant in
    let terms = c.args.terms.now in
    let wanted = c.args.wanted.now in
    let walk = c.claims.walk in
    let r = rw (c.in-OfFamily.is, c.as_str-family.ensures.value, c.family.ensures) at c.in_ok-step.ensures.step in
    let reached = c.in-OfFamily.reached in
    let here = at_wanted _ _ _ _ (sym c.is_at.ensures ∙ c.if-is_at.true) in
    let located = subst (λ (parts : TermsParts). ForTerms parts (λ T. IsFiled T reached.offer)) i.0.terms r.passes.next.filed in
    case_wanted terms reached.offer wanted reached.case here.0 here.1 located c.requires.there
    (case_reached terms (family_of wanted.claim.now) walk.claims walk.position walk.lasts.items i.0 c.requires.ordered c.due_claim_stays_in_order.ensures c.step.new.self.claims reached.offer r.passes.next
    reached.number r.own r.number c.step.new.self.lasts.items reached.case r.settled)

pub claims-preserved-in-Other : goal.claims-preserved-in-Other
claims-preserved-in-Other c =
    let i = c.claims.invariant in
    let terms = c.args.terms.now in
    let wanted = c.args.wanted.now in
    let family = family_of wanted.claim.now in
    let old = c.claims.walk in
    let new = c.step.new.self in
    let r = rw (c.in-Other.is, c.as_str-family.ensures.value, c.family.ensures) at c.in_ok-step.ensures.step in
    let next = r.passes.next in
    let located = subst (λ (parts : TermsParts). ForTerms parts (λ T. IsFiled T r.offer)) i.0.terms next.filed in
    let other = not_wanted terms family r.offer wanted located c.requires.there refl r.other c.claim_lists_exist.ensures in
    let goes = settled_other terms family old.claims old.position old.lasts.items i.0 c.requires.ordered c.due_claim_stays_in_order.ensures new.claims r.offer next r.other in (
      carried (AreSettled terms family new.claims) old.position new.position old.lasts.items new.lasts.items r.passes.position r.lasts goes.settled,
      c.in_ok-step.ensures.readers,
      not_given old.claims new.claims r.offer next wanted i.2 other,
      c.in_ok-step.ensures.plan ∙ i.3,
    )

pub claims-preserved : goal.claims-preserved
claims-preserved c =
    let i = c.claims.invariant in
    let terms = c.args.terms.now in
    let wanted = c.args.wanted.now in
    let family = family_of wanted.claim.now in
    let old = c.claims.walk in
    let new = c.step.new.self in
    let r = rw (c.in-OfFamily.is, c.as_str-family.ensures.value, c.family.ensures) at c.in_ok-step.ensures.step in
    let reached = c.in-OfFamily.reached in
    let next = r.passes.next in
    let other = at_other _ _ _ _ (sym c.is_at.ensures ∙ c.if-is_at.false) in
    let goes = settled_own terms family old.claims old.position old.lasts.items i.0 c.requires.ordered c.due_claim_stays_in_order.ensures new.claims reached.offer next reached.number r.own r.number new.lasts.items
    reached.case r.settled in (
      carried (AreSettled terms family new.claims) old.position new.position new.lasts.items new.lasts.items r.passes.position refl goes.settled,
      c.in_ok-step.ensures.readers,
      not_given old.claims new.claims reached.offer next wanted i.2 other,
      c.in_ok-step.ensures.plan ∙ i.3,
    )

pub step-requires-clause-fit : goal.step-requires-clause-fit
step-requires-clause-fit c = grind (arith, common_steps)

pub claims-smaller-in-Other : goal.claims-smaller-in-Other
claims-smaller-in-Other c = grind (arith, common_steps)

pub unreachable-unreachable : goal.unreachable-unreachable
unreachable-unreachable c = grind (arith, common_steps)

pub returns-then-is_at-clause-plan : goal.returns-then-is_at-clause-plan
returns-then-is_at-clause-plan c = grind (arith, common_steps)

pub claims-smaller : goal.claims-smaller
claims-smaller c = grind (arith, common_steps)
