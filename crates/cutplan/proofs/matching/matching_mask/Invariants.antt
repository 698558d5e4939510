use Rattle.cutplan.proofs.ByMasks.{AreMet}
use Rattle.cutplan.proofs.matching.matching_mask.Given as goal

abbrev pub invariant-loop-column : goal.invariant-loop-column
invariant-loop-column l = AreMet l.given l.earlier l.table l.column-index l.mask
