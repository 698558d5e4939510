use Rattle.std.proofs.Common.{arith}
use Rattle.std.proofs.lemmas.Grind.{common_steps}
use Rattle.plan_rows.proofs.expected.is_text_of.Goals as goal

pub returns-in-One : goal.returns-in-One
returns-in-One c = rw c.in-One.is c.denotes.ensures

pub returns-in-Many : goal.returns-in-Many
returns-in-Many c = grind (arith, common_steps)
