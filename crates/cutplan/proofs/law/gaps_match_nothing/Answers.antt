use Rattle.cutplan.proofs.Matched.{gaps_match_nothing}
use Rattle.cutplan.proofs.law.gaps_match_nothing.Goals as goal

pub returns : goal.returns
returns c = gaps_match_nothing
