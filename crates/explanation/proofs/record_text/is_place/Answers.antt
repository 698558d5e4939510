use Rattle.std.proofs.Common.{arith}
use Rattle.std.proofs.lemmas.Grind.{common_steps}
use Rattle.explanation.proofs.record_text.is_place.Goals as goal

pub returns-then-place-files : goal.returns-then-place-files
returns-then-place-files c = grind (arith, common_steps)

pub returns-else-place-files : goal.returns-else-place-files
returns-else-place-files c = grind (arith, common_steps)
