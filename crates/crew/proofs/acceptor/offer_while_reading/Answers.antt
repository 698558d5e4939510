use Rattle.std.proofs.Common.{arith}
use Rattle.std.proofs.lemmas.Grind.{common_steps}
use Rattle.crew.proofs.acceptor.offer_while_reading.Goals as goal

pub returns-then-wanted_count-lt-CLAIMS_WORTH_THREADS-clause-goes_on : goal.returns-then-wanted_count-lt-CLAIMS_WORTH_THREADS-clause-goes_on
returns-then-wanted_count-lt-CLAIMS_WORTH_THREADS-clause-goes_on c = grind (arith, common_steps)

pub returns-then-wanted_count-lt-CLAIMS_WORTH_THREADS-clause-offered : goal.returns-then-wanted_count-lt-CLAIMS_WORTH_THREADS-clause-offered
returns-then-wanted_count-lt-CLAIMS_WORTH_THREADS-clause-offered c = grind (arith, common_steps)

pub returns-clause-taken : goal.returns-clause-taken
returns-clause-taken c = grind (arith, common_steps)

pub returns-clause-offered : goal.returns-clause-offered
returns-clause-offered c = grind (arith, common_steps)

pub returns-clause-terms : goal.returns-clause-terms
returns-clause-terms c = grind (arith, common_steps)

pub returns-then-wanted_count-lt-CLAIMS_WORTH_THREADS-clause-leaves : goal.returns-then-wanted_count-lt-CLAIMS_WORTH_THREADS-clause-leaves
returns-then-wanted_count-lt-CLAIMS_WORTH_THREADS-clause-leaves c = grind (arith, common_steps)

pub returns-clause-leaves : goal.returns-clause-leaves
returns-clause-leaves c = grind (arith, common_steps)

pub returns-clause-goes_on : goal.returns-clause-goes_on
returns-clause-goes_on c = grind (arith, common_steps)
