use Rattle.std.proofs.Common.{◌∙◌, refl}
use Rattle.claim_gate.specs.declared.job.DecidedJob.{DecidedJob}
use Rattle.gate_calls.proofs.HeldClaims.{settled_is}
use Rattle.gate_calls.proofs.worker.settle.Goals as goal

pub returns-clause-settled : goal.returns-clause-settled
returns-clause-settled c =
    let plan = c.args.adjudicator.now in
    let job = c.args.job in
    let outcome = c.in_ok-outcome-2.outcome in
    let settled : DecidedJob = record { job = job; outcome = outcome } in
    let decided = rw c.as_claim.ensures at c.in_ok-outcome.ensures.decided in
    settled_is plan plan job outcome settled refl (c.in_ok-outcome-2.ensures.value ∙ decided) refl

pub decide-requires-clause-fields : goal.decide-requires-clause-fields
decide-requires-clause-fields c = rw c.as_claim.ensures c.requires.fields
