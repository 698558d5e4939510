use Rattle.std.proofs.Common.{arith}
use Rattle.std.proofs.lemmas.Grind.{common_steps}
use Rattle.explanation.proofs.format.append_fact.Goals as goal

pub returns-in-Csv : goal.returns-in-Csv
returns-in-Csv c = grind (arith, common_steps)

pub returns-in-Text : goal.returns-in-Text
returns-in-Text c = grind (arith, common_steps)
