use Rattle.cutplan.proofs.CutOrder.{cuts_are_literals}
use Rattle.cutplan.proofs.law.cuts_are_literals.Goals as goal

pub returns : goal.returns
returns c = cuts_are_literals
