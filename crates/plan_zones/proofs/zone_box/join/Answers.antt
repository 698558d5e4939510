use Rattle.std.proofs.Common.{arith}
use Rattle.std.proofs.lemmas.Grind.{common_steps, elements}
use Rattle.plan_zones.proofs.zone_box.join.Goals as goal

pub returns-in-Some : goal.returns-in-Some
returns-in-Some c = grind (arith, elements)

pub index_mut-requires : goal.index_mut-requires
index_mut-requires c = grind (arith, elements)

pub returns-in_ok-push-in-None-2 : goal.returns-in_ok-push-in-None-2
returns-in_ok-push-in-None-2 c = grind (arith, common_steps)

pub same-boxes : goal.same-boxes
same-boxes c = grind (arith, common_steps)
