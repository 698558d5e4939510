use Rattle.std.proofs.Common.{arith}
use Rattle.std.proofs.lemmas.Grind.{elements, common_steps}
use Rattle.journal.proofs.family_queues.FamilyQueues.take.Goals as goal

pub index-requires : goal.index-requires
index-requires c = grind (arith, elements)

pub index-requires-2 : goal.index-requires-2
index-requires-2 c = grind (arith, elements)

pub index_mut-requires : goal.index_mut-requires
index_mut-requires c = grind (arith, elements)

pub pick-claim-requires : goal.pick-claim-requires
pick-claim-requires c = grind (arith, elements)

pub returns : goal.returns
returns c = grind (arith, elements)

pub returns-in_err-position : goal.returns-in_err-position
returns-in_err-position c = grind (arith, common_steps)
