use Rattle.cutplan.proofs.Overlapping.{reports_overlaps}
use Rattle.cutplan.proofs.law.overlap_iff_two_rules_match.Goals as goal

pub returns : goal.returns
returns c = reports_overlaps
