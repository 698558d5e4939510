use Rattle.std.proofs.Common.{rules}
use Rattle.fixpoint.proofs.fixed.Fixed.is_cents.Goals as goal

pub returns : goal.returns
returns c = search rules
