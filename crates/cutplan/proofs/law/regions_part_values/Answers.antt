use Rattle.cutplan.proofs.Parting.{regions_part_values}
use Rattle.cutplan.proofs.law.regions_part_values.Goals as goal

pub returns : goal.returns
returns c = regions_part_values
