use Rattle.std.proofs.Common.{arith}
use Rattle.std.proofs.lemmas.Grind.{common_steps}
use Rattle.explanation.proofs.settlement_steps.add_amounts.Goals as goal

pub returns-in-Paid : goal.returns-in-Paid
returns-in-Paid c = grind (arith, common_steps)
