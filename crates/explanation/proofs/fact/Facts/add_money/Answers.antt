use Rattle.std.proofs.Common.{arith}
use Rattle.std.proofs.lemmas.Grind.{common_steps}
use Rattle.explanation.proofs.fact.Facts.add_money.Goals as goal

pub slice_bounds-add-end : goal.slice_bounds-add-end
slice_bounds-add-end c = grind (arith, common_steps)

pub returns : goal.returns
returns c = grind (arith, common_steps)
