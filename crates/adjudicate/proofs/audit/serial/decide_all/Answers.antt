use Rattle.std.proofs.Common.{◌∙◌, ap}
use Rattle.claim_gate.specs.Parts.{GateParts}
use Rattle.adjudicate.proofs.Given.{accepted_first, idle_first}
use Rattle.adjudicate.proofs.Steps.{not_unfinished, ordered_as}
use Rattle.adjudicate.proofs.audit.serial.decide_all.Goals as goal

pub settle_all-requires-clause-idle : goal.settle_all-requires-clause-idle
settle_all-requires-clause-idle c = idle_first c.args.terms.now c.in_ok-gate.gate c.claim_lists_exist.ensures c.in_ok-gate.ensures c.journal-new.ensures.lawful

pub settle_all-requires-clause-accepted : goal.settle_all-requires-clause-accepted
settle_all-requires-clause-accepted c = accepted_first c.args.terms.now c.in_ok-gate.gate c.in_ok-claims.claims c.in_ok-gate.ensures c.in_ok-claims.ensures.start

pub unreachable-requires : goal.unreachable-requires
unreachable-requires c =
    not_unfinished c.args.terms.now c.settle_all.new.gate c.claim_lists_exist.ensures c.in_ok-settle_all.ensures.terms c.in_ok-settle_all.ensures.idle c.in_ok-settle_all.ensures.over
    c.in-Err.ensures.unfinished

pub returns-clause-ordered : goal.returns-clause-ordered
returns-clause-ordered c =
    ordered_as c.args.terms.now c.settle_all.new.gate c.in-Ok.batch.journal c.in_ok-settle_all.ensures.terms c.in-Ok.ensures.batch.1 c.journal-ordered.ensures.ordered

pub settle_all-requires-clause-terms : goal.settle_all-requires-clause-terms
settle_all-requires-clause-terms c = ap (λ (g : GateParts). g.terms) c.in_ok-gate.ensures

pub settle_all-requires-clause-of_terms : goal.settle_all-requires-clause-of_terms
settle_all-requires-clause-of_terms c = c.in_ok-claims.ensures.start.terms_are

pub settle_all-requires-clause-plan : goal.settle_all-requires-clause-plan
settle_all-requires-clause-plan c = c.in_ok-adjudicator.ensures ∙ c.requires.plan
