use Rattle.std.proofs.lemmas.Grind.{common_steps}
use Rattle.std.proofs.Common.{arith}
use Rattle.fixpoint.proofs.fixed.Fixed.from_units.Goals as goal

pub returns-then-units-le-MAX_UNITS : goal.returns-then-units-le-MAX_UNITS
returns-then-units-le-MAX_UNITS c = grind (arith, common_steps)
