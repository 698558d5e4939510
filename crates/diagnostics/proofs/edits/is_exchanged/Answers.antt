use Rattle.std.proofs.Common.{arith}
use Rattle.std.proofs.lemmas.Grind.{common_steps}
use Rattle.diagnostics.proofs.edits.is_exchanged.Goals as goal

pub returns-then-one-other-2 : goal.returns-then-one-other-2
returns-then-one-other-2 c = grind (arith, common_steps)
