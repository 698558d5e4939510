use Rattle.cutplan.proofs.Matched.{fits_are_matches}
use Rattle.cutplan.proofs.law.fits_are_matches.Goals as goal

pub returns : goal.returns
returns c = fits_are_matches
