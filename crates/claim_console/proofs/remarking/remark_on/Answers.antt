use Rattle.std.proofs.Common.{arith}
use Rattle.std.proofs.lemmas.Grind.{common_steps}
use Rattle.claim_console.proofs.remarking.remark_on.Goals as goal

pub returns-clause-closed : goal.returns-clause-closed
returns-clause-closed c = grind (arith, common_steps)

pub returns-then-is_err-clause-failed : goal.returns-then-is_err-clause-failed
returns-then-is_err-clause-failed c = grind (arith, common_steps)

pub returns-then-both-clause-failed : goal.returns-then-both-clause-failed
returns-then-both-clause-failed c = grind (arith, common_steps)
