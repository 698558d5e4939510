use Rattle.std.proofs.Common.{arith}
use Rattle.std.proofs.lemmas.Grind.{elements}
use Rattle.cutplan.proofs.cut_plan.CutPlan.compiled_answers.Goals as goal

pub returns : goal.returns
returns c = grind (arith, elements)

pub offset_bounds-as_slice-place : goal.offset_bounds-as_slice-place
offset_bounds-as_slice-place c = grind (arith, elements)

pub bounds-as_slice-place : goal.bounds-as_slice-place
bounds-as_slice-place c = grind (arith, elements)
