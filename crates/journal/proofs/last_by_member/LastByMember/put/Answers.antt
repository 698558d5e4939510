use Rattle.std.proofs.Common.{arith}
use Rattle.std.proofs.lemmas.Grind.{common_steps}
use Rattle.journal.proofs.last_by_member.LastByMember.put.Goals as goal

pub put_in_entry-requires : goal.put_in_entry-requires
put_in_entry-requires c = grind (arith, common_steps)

pub returns-then-holds-clause-before : goal.returns-then-holds-clause-before
returns-then-holds-clause-before c = grind (arith, common_steps)

pub returns-else-holds-clause-found : goal.returns-else-holds-clause-found
returns-else-holds-clause-found c = grind (arith, common_steps)

pub returns-then-holds-clause-found : goal.returns-then-holds-clause-found
returns-then-holds-clause-found c = grind (arith, common_steps)

pub returns-else-holds-clause-room : goal.returns-else-holds-clause-room
returns-else-holds-clause-room c = grind (arith, common_steps)

pub returns-then-holds-clause-room : goal.returns-then-holds-clause-room
returns-then-holds-clause-room c = grind (arith, common_steps)

pub put_in_map-requires-clause-apart : goal.put_in_map-requires-clause-apart
put_in_map-requires-clause-apart c = grind (arith, common_steps)

pub returns-else-holds-clause-refused : goal.returns-else-holds-clause-refused
returns-else-holds-clause-refused c = grind (arith, common_steps)

pub returns-else-holds-clause-before : goal.returns-else-holds-clause-before
returns-else-holds-clause-before c = grind (arith, common_steps)
