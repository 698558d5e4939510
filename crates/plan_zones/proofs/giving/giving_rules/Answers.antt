use Rattle.std.proofs.Common.{arith}
use Rattle.std.proofs.lemmas.Grind.{common_steps}
use Rattle.plan_zones.proofs.giving.giving_rules.Goals as goal

pub returns-in_ok-ordered-in-P : goal.returns-in_ok-ordered-in-P
returns-in_ok-ordered-in-P c = grind (arith, common_steps)
