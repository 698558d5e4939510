use Rattle.std.proofs.Common.{arith}
use Rattle.std.proofs.lemmas.Grind.{common_steps}
use Rattle.explanation.proofs.table.add_answering.Goals as goal

pub returns-then-is_ranked : goal.returns-then-is_ranked
returns-then-is_ranked c = grind (arith, common_steps)

pub returns : goal.returns
returns c = grind (arith, common_steps)
