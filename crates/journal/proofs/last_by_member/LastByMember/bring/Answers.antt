use Rattle.std.proofs.Common.{arith}
use Rattle.std.proofs.lemmas.Grind.{common_steps, elements}
use Rattle.journal.proofs.last_by_member.LastByMember.bring.Goals as goal

pub exchange-requires : goal.exchange-requires
exchange-requires c = grind (arith, common_steps)

pub returns-else-gives_way_to : goal.returns-else-gives_way_to
returns-else-gives_way_to c = grind (arith, elements)

pub index-requires : goal.index-requires
index-requires c = grind (arith, common_steps)

pub returns-then-gives_way_to : goal.returns-then-gives_way_to
returns-then-gives_way_to c = grind (arith, elements)
