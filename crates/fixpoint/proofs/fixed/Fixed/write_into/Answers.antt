use Rattle.std.proofs.lemmas.Grind.{common_steps}
use Rattle.std.proofs.Common.{arith}
use Rattle.fixpoint.proofs.fixed.Fixed.write_into.Goals as goal

pub write_shortest-requires : goal.write_shortest-requires
write_shortest-requires c = grind (arith, common_steps)
