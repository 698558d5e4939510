use Rattle.std.proofs.Common.{arith}
use Rattle.std.proofs.lemmas.Grind.{common_steps}
use Rattle.plan_zones.proofs.benefit.texts_of.Goals as goal

pub returns-in-Some-Many : goal.returns-in-Some-Many
returns-in-Some-Many c = grind (arith, common_steps)
