use Rattle.cutplan.proofs.ColumnWise.{cells_hold_alike}
use Rattle.cutplan.proofs.law.cells_hold_alike.Goals as goal

pub returns : goal.returns
returns c = cells_hold_alike
