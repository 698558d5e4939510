use Rattle.std.proofs.Common.{arith}
use Rattle.cutplan.proofs.FirstRules.{all_set, low_set}
use Rattle.cutplan.proofs.mask.low_bits.Goals as goal

pub returns-then-count-ge64 : goal.returns-then-count-ge64
returns-then-count-ge64 c = grind (arith, all_set)

pub returns-else-count-eq0 : goal.returns-else-count-eq0
returns-else-count-eq0 c = grind (arith, low_set)
