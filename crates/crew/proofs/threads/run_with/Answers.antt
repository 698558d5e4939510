use Rattle.std.proofs.Common.{arith}
use Rattle.std.proofs.lemmas.Grind.{common_steps}
use Rattle.crew.proofs.threads.run_with.Goals as goal

pub returns-clause-workers : goal.returns-clause-workers
returns-clause-workers c = grind (arith, common_steps)

pub returns-clause-finished : goal.returns-clause-finished
returns-clause-finished c = grind (arith, common_steps)

pub returns-clause-back : goal.returns-clause-back
returns-clause-back c = grind (arith, common_steps)

pub returns-clause-seen : goal.returns-clause-seen
returns-clause-seen c = grind (arith, common_steps)

pub returns-clause-refused : goal.returns-clause-refused
returns-clause-refused c = grind (arith, common_steps)

pub returns-clause-stopped : goal.returns-clause-stopped
returns-clause-stopped c = grind (arith, common_steps)

pub run_on-requires-clause-terms : goal.run_on-requires-clause-terms
run_on-requires-clause-terms c = grind (arith, common_steps)

pub returns-clause-own : goal.returns-clause-own
returns-clause-own c = grind (arith, common_steps)

pub returns-clause-seen_back : goal.returns-clause-seen_back
returns-clause-seen_back c = grind (arith, common_steps)

pub returns-clause-ended : goal.returns-clause-ended
returns-clause-ended c = grind (arith, common_steps)
