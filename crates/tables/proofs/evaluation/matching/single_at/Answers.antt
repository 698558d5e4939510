use Rattle.std.proofs.Common.{arith}
use Rattle.std.proofs.lemmas.Grind.{elements}
use Rattle.tables.proofs.evaluation.matching.single_at.Goals as goal

pub returns-in-Some-One : goal.returns-in-Some-One
returns-in-Some-One c = grind (arith, elements)

pub returns-in_default : goal.returns-in_default
returns-in_default c = grind (arith, elements)
