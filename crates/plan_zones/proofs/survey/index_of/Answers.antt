use Rattle.std.proofs.Common.{arith}
use Rattle.std.proofs.lemmas.Grind.{common_steps, elements}
use Rattle.plan_zones.proofs.survey.index_of.Goals as goal

pub returns-in-Some-clause-at : goal.returns-in-Some-clause-at
returns-in-Some-clause-at c = grind (arith, common_steps)

pub returns-in-Some-clause-kept : goal.returns-in-Some-clause-kept
returns-in-Some-clause-kept c = grind (arith, common_steps)

pub returns-clause-at : goal.returns-clause-at
returns-clause-at c = grind (arith, elements)
