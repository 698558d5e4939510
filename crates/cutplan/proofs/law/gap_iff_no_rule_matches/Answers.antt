use Rattle.cutplan.proofs.GapLists.{tells_gaps}
use Rattle.cutplan.proofs.law.gap_iff_no_rule_matches.Goals as goal

pub returns : goal.returns
returns c = tells_gaps
