use Rattle.cutplan.proofs.CutOrder.{cuts_rise}
use Rattle.cutplan.proofs.law.cuts_rise.Goals as goal

pub returns : goal.returns
returns c = cuts_rise
