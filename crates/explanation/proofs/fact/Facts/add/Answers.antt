use Rattle.std.proofs.Common.{arith}
use Rattle.std.proofs.lemmas.Grind.{common_steps}
use Rattle.explanation.proofs.fact.Facts.add.Goals as goal

pub returns : goal.returns
returns c = grind (arith, common_steps)

pub same-self-in_err-from_slice-3 : goal.same-self-in_err-from_slice-3
same-self-in_err-from_slice-3 c = grind (arith, common_steps)
