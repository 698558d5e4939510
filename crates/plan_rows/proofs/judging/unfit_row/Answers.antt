use Rattle.std.proofs.Common.{arith}
use Rattle.std.proofs.lemmas.Grind.{elements}
use Rattle.plan_rows.proofs.judging.unfit_row.Goals as goal

pub offset_bounds-names-place : goal.offset_bounds-names-place
offset_bounds-names-place c = grind (arith, elements)

pub returns : goal.returns
returns c = grind (arith, elements)

pub bounds-names-place : goal.bounds-names-place
bounds-names-place c = grind (arith, elements)
