use Rattle.std.proofs.Common.{arith}
use Rattle.std.proofs.lemmas.Grind.{common_steps}
use Rattle.cutplan.proofs.compiled_answers.first_in.Goals as goal

pub loop-rule-preserved : goal.loop-rule-preserved
loop-rule-preserved c = grind (arith, common_steps)

pub returns : goal.returns
returns c = grind (arith, common_steps)

pub returns-then-is_in_mask : goal.returns-then-is_in_mask
returns-then-is_in_mask c = grind (arith, common_steps)
