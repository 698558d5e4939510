use Rattle.std.proofs.Common.{arith}
use Rattle.std.proofs.lemmas.Grind.{common_steps}
use Rattle.journal.proofs.last_by_key.LastByKey.set.Goals as goal

pub put-before-requires : goal.put-before-requires
put-before-requires c = grind (arith, common_steps)

pub set-requires : goal.set-requires
set-requires c = grind (arith, common_steps)
