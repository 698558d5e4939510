use Rattle.std.proofs.Common.{arith}
use Rattle.std.proofs.lemmas.Grind.{common_steps}
use Rattle.explanation.proofs.family_facts.append_reached.Goals as goal

pub returns-clause-text : goal.returns-clause-text
returns-clause-text c = grind (arith, common_steps)

pub facts_of_case-requires-clause-likely : goal.facts_of_case-requires-clause-likely
facts_of_case-requires-clause-likely c = grind (arith, common_steps)
