use Rattle.std.proofs.Common.{arith}
use Rattle.cutplan.proofs.MaskBits.{tested}
use Rattle.cutplan.proofs.mask.RuleMask.has.Goals as goal

pub returns : goal.returns
returns c = grind (arith, tested)
