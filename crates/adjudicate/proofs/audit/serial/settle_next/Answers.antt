use Rattle.std.proofs.Common.{◌∙◌, subst}
use Rattle.settlement.specs.Claim.{IsClaimOf}
use Rattle.claim_gate.specs.Terms.{TermsParts}
use Rattle.adjudicate.proofs.Steps.{accepts_none_twice, accepts_then_none}
use Rattle.adjudicate.proofs.audit.serial.settle_next.Goals as goal

pub returns-clause-settled : goal.returns-clause-settled
returns-clause-settled c =
    let old = c.args.gate.now in
    let offered = c.offer_next.new.gate in
    let taken = c.take_next.new.gate in
    let settled = c.record.new.gate in
    let one = rw c.if-not-branch.false at c.in_ok-offer_next.ensures in (
      c.in_ok-record.ensures.idle,
      accepts_then_none old offered settled c.args.offer.provider one.1 (accepts_none_twice offered taken settled c.in_ok-job.ensures.none c.in_ok-record.ensures.none),
    )

pub take_next-requires-clause-terms : goal.take_next-requires-clause-terms
take_next-requires-clause-terms c =
    let one = rw c.if-not-branch.false at c.in_ok-offer_next.ensures in
    one.1.terms ∙ c.requires.terms

pub take_next-requires-clause-offered : goal.take_next-requires-clause-offered
take_next-requires-clause-offered c =
    let one = rw c.if-not-branch.false at c.in_ok-offer_next.ensures in
    one.0

pub outcome_of-requires-clause-fields : goal.outcome_of-requires-clause-fields
outcome_of-requires-clause-fields c =
    let one = rw c.if-not-branch.false at c.in_ok-offer_next.ensures in
    subst (λ (terms : TermsParts). IsClaimOf terms.plan c.in_ok-job.job.claim) (c.in_ok-job.ensures.none.terms ∙ one.1.terms ∙ c.requires.terms) c.in_ok-job.ensures.taken.fields
