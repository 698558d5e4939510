use Rattle.std.proofs.Common.{arith}
use Rattle.std.proofs.lemmas.Grind.{common_steps}
use Rattle.explanation.proofs.claim_facts.facts_of_case.Goals as goal

pub returns-in-Accepted-clause-plan : goal.returns-in-Accepted-clause-plan
returns-in-Accepted-clause-plan c = grind (arith, common_steps)
