use Rattle.std.proofs.Common.{arith}
use Rattle.std.proofs.lemmas.Grind.{common_steps}
use Rattle.plan_rows.proofs.filing.accumulators_at.Goals as goal

pub returns-clause-acc : goal.returns-clause-acc
returns-clause-acc c = grind (arith, common_steps)
