use Rattle.std.proofs.Common.{◌∙◌}
use Rattle.adjudicate.proofs.Steps.{settled_as}
use Rattle.adjudicate.proofs.audit.serial.outcome_of.Goals as goal

pub returns-clause-outcome : goal.returns-clause-outcome
returns-clause-outcome c =
    let job = c.args.job.now in
    let decided = rw c.as_claim.ensures at c.in_ok-decided.ensures.decided in
    settled_as c.args.adjudicator.now c.args.terms.now.plan job.claim job.acc c.in_ok-new.field-0 (c.in_ok-new.ensures.value ∙ decided) c.requires.plan
