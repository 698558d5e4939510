use Rattle.std.proofs.Common.{arith}
use Rattle.std.proofs.lemmas.Grind.{common_steps, elements}
use Rattle.plan_zones.proofs.walk.boxes_of_zone.Goals as goal

pub returns-in_ok-index-in-Some-clause-boxes : goal.returns-in_ok-index-in-Some-clause-boxes
returns-in_ok-index-in-Some-clause-boxes c = grind (arith, elements)

pub returns-in_ok-index-in-Some-clause-kept : goal.returns-in_ok-index-in-Some-clause-kept
returns-in_ok-index-in-Some-clause-kept c = grind (arith, common_steps)

pub returns-in-None-clause-kept : goal.returns-in-None-clause-kept
returns-in-None-clause-kept c = grind (arith, common_steps)

pub returns-in-None-clause-boxes : goal.returns-in-None-clause-boxes
returns-in-None-clause-boxes c = grind (arith, common_steps)
