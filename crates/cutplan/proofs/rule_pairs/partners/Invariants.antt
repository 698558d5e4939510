use Rattle.std.proofs.Common.{take}
use Rattle.cutplan.specs.Masks.{Marks}
use Rattle.cutplan.specs.CheckSteps.{share_all}
use Rattle.cutplan.specs.CompiledColumns.{masks_kept}
use Rattle.cutplan.proofs.rule_pairs.partners.Given as goal

abbrev pub invariant-columns : goal.invariant-columns
invariant-columns l = Marks (share_all (masks_kept (take l.column-index l.columns)) l.rule) l.mask
