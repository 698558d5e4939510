use Rattle.std.proofs.Common.{arith}
use Rattle.std.proofs.lemmas.Grind.{common_steps, elements}
use Rattle.explanation.proofs.family.keep_last.Goals as goal

pub returns-in_default : goal.returns-in_default
returns-in_default c = grind (arith, common_steps)

pub remove-requires : goal.remove-requires
remove-requires c = grind (arith, elements)
