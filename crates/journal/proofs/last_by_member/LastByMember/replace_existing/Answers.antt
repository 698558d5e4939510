use Rattle.std.proofs.Common.{arith}
use Rattle.std.proofs.lemmas.Grind.{common_steps, elements}
use Rattle.journal.proofs.last_by_member.LastByMember.replace_existing.Goals as goal

pub index-requires : goal.index-requires
index-requires c = grind (arith, elements)

pub returns-else-holds-clause-found : goal.returns-else-holds-clause-found
returns-else-holds-clause-found c = grind (arith, common_steps)

pub returns-then-holds-clause-found : goal.returns-then-holds-clause-found
returns-then-holds-clause-found c = grind (arith, elements)
