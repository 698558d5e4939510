use Rattle.std.proofs.Common.{arith}
use Rattle.std.proofs.lemmas.Grind.{elements}
use Rattle.journal.proofs.last_by_member.LastByMember.last_position.Goals as goal

pub index-requires : goal.index-requires
index-requires c = grind (arith, elements)

pub returns-then-holds : goal.returns-then-holds
returns-then-holds c = grind (arith, elements)
