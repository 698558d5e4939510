use Rattle.std.proofs.Common.{arith}
use Rattle.std.proofs.lemmas.Grind.{common_steps}
use Rattle.journal.proofs.last_by_key.LastByKey.put.Goals as goal

pub returns-else-is_own_family-clause-room : goal.returns-else-is_own_family-clause-room
returns-else-is_own_family-clause-room c = grind (arith, common_steps)

pub returns-else-is_own_family-clause-before : goal.returns-else-is_own_family-clause-before
returns-else-is_own_family-clause-before c = grind (arith, common_steps)

pub returns-else-is_own_family-clause-refused : goal.returns-else-is_own_family-clause-refused
returns-else-is_own_family-clause-refused c = grind (arith, common_steps)

pub returns-in_ok-prepare-clause-room : goal.returns-in_ok-prepare-clause-room
returns-in_ok-prepare-clause-room c = grind (arith, common_steps)

pub returns-else-is_own_family-clause-found : goal.returns-else-is_own_family-clause-found
returns-else-is_own_family-clause-found c = grind (arith, common_steps)

pub put-requires : goal.put-requires
put-requires c = grind (arith, common_steps)
