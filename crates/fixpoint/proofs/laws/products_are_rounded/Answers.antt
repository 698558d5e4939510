use Rattle.fixpoint.proofs.NearestCents.{products_are_rounded}
use Rattle.fixpoint.proofs.laws.products_are_rounded.Goals as goal

pub returns : goal.returns
returns c = products_are_rounded
