use Rattle.cutplan.proofs.Matched.{overlaps_match_together}
use Rattle.cutplan.proofs.law.overlaps_match_together.Goals as goal

pub returns : goal.returns
returns c = overlaps_match_together
