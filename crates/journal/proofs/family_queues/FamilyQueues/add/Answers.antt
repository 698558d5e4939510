use Rattle.std.proofs.Common.{arith}
use Rattle.std.proofs.lemmas.Grind.{common_steps}
use Rattle.journal.proofs.family_queues.FamilyQueues.add.Goals as goal

pub follow-phase-requires-clause-within : goal.follow-phase-requires-clause-within
follow-phase-requires-clause-within c = grind (arith, common_steps)
