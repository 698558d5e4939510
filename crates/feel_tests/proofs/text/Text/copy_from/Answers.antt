use Rattle.std.proofs.Common.{arith}
use Rattle.std.proofs.lemmas.Grind.{common_steps}
use Rattle.feel_tests.proofs.text.Text.copy_from.Goals as goal

pub invariant_of-self : goal.invariant_of-self
invariant_of-self c = grind (arith, common_steps)

pub returns-clause-emptied : goal.returns-clause-emptied
returns-clause-emptied c = grind (arith, common_steps)

pub returns-clause-copied : goal.returns-clause-copied
returns-clause-copied c = grind (arith, common_steps)
