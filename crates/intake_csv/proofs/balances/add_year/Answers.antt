use Rattle.std.proofs.lemmas.Grind.{common_steps}
use Rattle.std.proofs.Common.{arith}
use Rattle.intake_csv.proofs.balances.add_year.Goals as goal

pub returns-clause-once : goal.returns-clause-once
returns-clause-once c = grind (arith, common_steps)

pub returns-clause-same : goal.returns-clause-same
returns-clause-same c = grind (arith, common_steps)
