use Rattle.std.proofs.lemmas.Grind.{common_steps}
use Rattle.std.proofs.Common.{arith}
use Rattle.fixpoint.proofs.buffered_out.BufferedOut.gather.Goals as goal

pub returns-then-text-room-clause-bounded : goal.returns-then-text-room-clause-bounded
returns-then-text-room-clause-bounded c = grind (arith, common_steps)

pub returns-then-text-room-clause-yes : goal.returns-then-text-room-clause-yes
returns-then-text-room-clause-yes c = grind (arith, common_steps)

pub returns-then-text-room-clause-no : goal.returns-then-text-room-clause-no
returns-then-text-room-clause-no c = grind (arith, common_steps)

pub returns-else-text-room-clause-yes : goal.returns-else-text-room-clause-yes
returns-else-text-room-clause-yes c = grind (arith, common_steps)

pub returns-else-text-room-clause-no : goal.returns-else-text-room-clause-no
returns-else-text-room-clause-no c = grind (arith, common_steps)
