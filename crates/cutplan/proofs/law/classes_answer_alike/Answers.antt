use Rattle.cutplan.proofs.ClassValues.{classes_answer_alike}
use Rattle.cutplan.proofs.law.classes_answer_alike.Goals as goal

pub returns : goal.returns
returns c = classes_answer_alike
