use Rattle.std.proofs.Common.{arith}
use Rattle.std.proofs.lemmas.Grind.{common_steps}
use Rattle.explanation.proofs.claim_facts.facts_of_accepted.Goals as goal

pub returns-clause-facts : goal.returns-clause-facts
returns-clause-facts c = grind (arith, common_steps)

pub add_outcome-requires-clause-fits : goal.add_outcome-requires-clause-fits
add_outcome-requires-clause-fits c = grind (arith, common_steps)

pub add_outcome-requires-clause-outcome : goal.add_outcome-requires-clause-outcome
add_outcome-requires-clause-outcome c = grind (arith, common_steps)
