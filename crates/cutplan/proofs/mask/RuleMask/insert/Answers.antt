use Rattle.std.proofs.Common.{arith}
use Rattle.cutplan.proofs.MaskBits.{inserted}
use Rattle.cutplan.proofs.mask.RuleMask.insert.Goals as goal

pub returns-clause-has : goal.returns-clause-has
returns-clause-has c = grind (arith, inserted)
