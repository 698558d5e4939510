use Rattle.std.proofs.Common.{arith}
use Rattle.std.proofs.lemmas.Grind.{common_steps}
use Rattle.explanation.proofs.finding.find_under.Goals as goal

pub returns-clause-found : goal.returns-clause-found
returns-clause-found c = grind (arith, common_steps)

pub returns-in_err-terms-clause-reason : goal.returns-in_err-terms-clause-reason
returns-in_err-terms-clause-reason c = grind (arith, common_steps)
