use Rattle.std.proofs.Common.{arith}
use Rattle.std.proofs.lemmas.Grind.{common_steps}
use Rattle.explanation.proofs.asked.explanation_under.Goals as goal

pub explanation_over-text-requires : goal.explanation_over-text-requires
explanation_over-text-requires c = grind (arith, common_steps)

pub returns-in_err-terms-clause-reason : goal.returns-in_err-terms-clause-reason
returns-in_err-terms-clause-reason c = grind (arith, common_steps)
