use Rattle.std.proofs.Common.{arith}
use Rattle.std.proofs.lemmas.Grind.{common_steps}
use Rattle.regions.proofs.regions_from_cuts.from_cut.Goals as goal

pub returns : goal.returns
returns c = grind (arith, common_steps)

pub loop-high-preserved : goal.loop-high-preserved
loop-high-preserved c = grind (arith, common_steps)
