use Rattle.std.proofs.Common.{arith}
use Rattle.std.proofs.lemmas.Grind.{common_steps}
use Rattle.std.proofs.lemmas.Result.{err_from_is_err_and}
use Rattle.explanation.specs.Explained.{claim_texts}
use Rattle.explanation.proofs.Texts.{reason_of_plan}
use Rattle.explanation.proofs.finding.find_claim.Goals as goal

pub returns-in_err-plan-clause-reason : goal.returns-in_err-plan-clause-reason
returns-in_err-plan-clause-reason c =
    let stopped = err_from_is_err_and c.from_residual.result c.from_residual.ensures.1 in
    rw stopped.1 (reason_of_plan (claim_texts c.args.plan.now c.args.files.now) _ _ c.in_err-plan.ensures.refused stopped.2)

pub returns-clause-reason : goal.returns-clause-reason
returns-clause-reason c = grind (arith, common_steps)

pub returns-clause-found : goal.returns-clause-found
returns-clause-found c = grind (arith, common_steps)
