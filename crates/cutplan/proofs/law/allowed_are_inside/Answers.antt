use Rattle.cutplan.proofs.Matched.{allowed_are_inside}
use Rattle.cutplan.proofs.law.allowed_are_inside.Goals as goal

pub returns : goal.returns
returns c = allowed_are_inside
