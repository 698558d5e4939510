use Rattle.std.proofs.Common.{arith}
use Rattle.std.proofs.lemmas.Grind.{common_steps}
use Rattle.turn_lock.proofs.spin.lock.SpinLock.new.Goals as goal

pub new-requires : goal.new-requires
new-requires g c = grind (arith, common_steps)

pub returns-in-Ok-clause-seen : goal.returns-in-Ok-clause-seen
returns-in-Ok-clause-seen g c = grind (arith, common_steps)

pub returns-in-Ok-clause-tally : goal.returns-in-Ok-clause-tally
returns-in-Ok-clause-tally g c = grind (arith, common_steps)

pub invariant_of-result-in-Ok : goal.invariant_of-result-in-Ok
invariant_of-result-in-Ok g c = grind (arith, common_steps)
