use Rattle.cutplan.proofs.Places.{places_are_gaps}
use Rattle.cutplan.proofs.law.places_are_gaps.Goals as goal

pub returns : goal.returns
returns c = places_are_gaps
