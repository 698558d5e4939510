use Rattle.std.proofs.Common.{arith}
use Rattle.std.proofs.lemmas.Grind.{common_steps}
use Rattle.diagnostics.proofs.edits.common_length.Goals as goal

pub loop-count-preserved : goal.loop-count-preserved
loop-count-preserved c = grind (arith, common_steps)

pub returns-else-one-count-clause-apart : goal.returns-else-one-count-clause-apart
returns-else-one-count-clause-apart c = grind (arith, common_steps)

pub returns-else-count-other-clause-apart : goal.returns-else-count-other-clause-apart
returns-else-count-other-clause-apart c = grind (arith, common_steps)

pub returns-after-loop-count-clause-apart : goal.returns-after-loop-count-clause-apart
returns-after-loop-count-clause-apart c = grind (arith, common_steps)
