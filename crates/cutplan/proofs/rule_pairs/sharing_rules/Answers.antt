use Rattle.std.proofs.Common.{arith}
use Rattle.std.proofs.lemmas.Grind.{common_steps}
use Rattle.cutplan.proofs.rule_pairs.sharing_rules.Goals as goal

pub masks-preserved : goal.masks-preserved
masks-preserved c = grind (arith, common_steps)

pub returns : goal.returns
returns c = grind (arith, common_steps)
