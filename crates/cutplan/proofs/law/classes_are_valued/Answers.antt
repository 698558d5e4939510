use Rattle.cutplan.proofs.ClassWise.{classes_are_valued}
use Rattle.cutplan.proofs.law.classes_are_valued.Goals as goal

pub returns : goal.returns
returns c = classes_are_valued
