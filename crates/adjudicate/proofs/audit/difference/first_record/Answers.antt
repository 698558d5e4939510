use Rattle.std.proofs.Common.{arith}
use Rattle.std.proofs.lemmas.Grind.{common_steps}
use Rattle.adjudicate.proofs.audit.difference.first_record.Goals as goal

pub returns-then-ends_record : goal.returns-then-ends_record
returns-then-ends_record c = grind (arith, common_steps)

pub loop-place-preserved : goal.loop-place-preserved
loop-place-preserved c = grind (arith, common_steps)
