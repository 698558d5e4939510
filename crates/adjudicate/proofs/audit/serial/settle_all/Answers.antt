use Rattle.std.proofs.Common.{◌∙◌, ap, subst, sym}
use Rattle.claim_gate.specs.Parts.{GateParts}
use Rattle.claim_gate.specs.Terms.{ForTerms}
use Rattle.claim_gate.specs.Replies.{IsFiled}
use Rattle.adjudicate.specs.Settling.{IsIdle}
use Rattle.adjudicate.proofs.Given.{accepted_at_end, accepted_more, all_given, next_due, next_place}
use Rattle.adjudicate.proofs.audit.serial.settle_all.Goals as goal

pub offers-init : goal.offers-init
offers-init c = (c.requires.idle, c.requires.terms, c.requires.of_terms, c.requires.accepted, c.requires.plan)

pub offers-preserved : goal.offers-preserved
offers-preserved c =
    let gives = rw c.in-Some.is at c.in_ok-offer.ensures.gives in
    let same = c.offers.invariant.2 ∙ sym c.offers.invariant.1 in
    let settled = rw c.if-not-branch.false at c.in_ok-settle_next.ensures.settled in (
      settled.0,
      settled.1.terms ∙ c.offers.invariant.1,
      gives.terms ∙ c.offers.invariant.2,
      accepted_more c.offers.claims c.next.new.self c.in-Some.offer gives c.offers.gate same c.offers.invariant.3 c.settle_next.new.gate settled.1,
      c.in_ok-settle_next.ensures.plan ∙ c.offers.invariant.4,
    )

pub offers-smaller : goal.offers-smaller
offers-smaller c =
    let gives = rw c.in-Some.is at c.in_ok-offer.ensures.gives in
    gives.fewer

pub settle_next-requires-clause-idle : goal.settle_next-requires-clause-idle
settle_next-requires-clause-idle c = c.offers.invariant.0

pub settle_next-requires-clause-terms : goal.settle_next-requires-clause-terms
settle_next-requires-clause-terms c = c.offers.invariant.1

pub settle_next-requires-clause-plan : goal.settle_next-requires-clause-plan
settle_next-requires-clause-plan c = c.offers.invariant.4

pub settle_next-requires-clause-filed : goal.settle_next-requires-clause-filed
settle_next-requires-clause-filed c =
    let gives = rw c.in-Some.is at c.in_ok-offer.ensures.gives in
    subst (λ terms. ForTerms terms (λ T. IsFiled T c.in-Some.offer)) c.offers.invariant.2 gives.filed

pub settle_next-requires-clause-next : goal.settle_next-requires-clause-next
settle_next-requires-clause-next c =
    let gives = rw c.in-Some.is at c.in_ok-offer.ensures.gives in
    next_place c.offers.claims c.next.new.self c.in-Some.offer gives c.offers.gate (c.offers.invariant.2 ∙ sym c.offers.invariant.1) c.offers.invariant.3

pub settle_next-requires-clause-due : goal.settle_next-requires-clause-due
settle_next-requires-clause-due c =
    let gives = rw c.in-Some.is at c.in_ok-offer.ensures.gives in
    next_due c.offers.claims c.next.new.self c.in-Some.offer gives c.offers.gate (c.offers.invariant.2 ∙ sym c.offers.invariant.1) c.offers.invariant.3

pub end_all-requires-clause-idle : goal.end_all-requires-clause-idle
end_all-requires-clause-idle c = c.offers.invariant.0

pub end_all-requires-clause-terms : goal.end_all-requires-clause-terms
end_all-requires-clause-terms c = c.offers.invariant.1

pub end_all-requires-clause-of_terms : goal.end_all-requires-clause-of_terms
end_all-requires-clause-of_terms c =
    let gives = rw c.in_default.is at c.in_ok-offer.ensures.gives in
    gives.0 ∙ c.offers.invariant.2

pub end_all-requires-clause-accepted : goal.end_all-requires-clause-accepted
end_all-requires-clause-accepted c =
    let gives = rw c.in_default.is at c.in_ok-offer.ensures.gives in
    accepted_at_end c.offers.claims c.next.new.self c.offers.gate.journal gives c.offers.invariant.3

pub end_all-requires-clause-all : goal.end_all-requires-clause-all
end_all-requires-clause-all c =
    let gives = rw c.in_default.is at c.in_ok-offer.ensures.gives in
    all_given c.offers.claims c.next.new.self gives

pub returns-then-not-branch-clause-idle : goal.returns-then-not-branch-clause-idle
returns-then-not-branch-clause-idle c =
    let closed_same = rw c.if-not-branch.true at c.in_ok-settle_next.ensures.settled in
    subst IsIdle (sym closed_same.1) c.offers.invariant.0

pub returns-then-not-branch-clause-terms : goal.returns-then-not-branch-clause-terms
returns-then-not-branch-clause-terms c =
    let closed_same = rw c.if-not-branch.true at c.in_ok-settle_next.ensures.settled in
    ap (λ (g : GateParts). g.terms) closed_same.1 ∙ c.offers.invariant.1
