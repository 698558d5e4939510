use Rattle.std.proofs.Common.{take}
use Rattle.cutplan.specs.Masks.{Marks}
use Rattle.cutplan.specs.CheckSteps.{share}
use Rattle.cutplan.proofs.rule_pairs.sharing_rules.Given as goal

abbrev pub invariant-masks : goal.invariant-masks
invariant-masks l = Marks (share (take l.mask-index l.masks) l.rule) l.found
