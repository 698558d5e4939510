use Rattle.cutplan.proofs.Holding.{regions_hold_values}
use Rattle.cutplan.proofs.law.regions_hold_values.Goals as goal

pub returns : goal.returns
returns c = regions_hold_values
