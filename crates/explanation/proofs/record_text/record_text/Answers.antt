use Rattle.std.proofs.Common.{arith}
use Rattle.std.proofs.lemmas.Grind.{common_steps}
use Rattle.explanation.proofs.record_text.record_text.Goals as goal

pub facts_of_row-requires-clause-row : goal.facts_of_row-requires-clause-row
facts_of_row-requires-clause-row c = grind (arith, common_steps)

pub facts_of_row-requires-clause-there : goal.facts_of_row-requires-clause-there
facts_of_row-requires-clause-there c = grind (arith, common_steps)

pub returns : goal.returns
returns c = grind (arith, common_steps)

pub returns-then-not-is_place : goal.returns-then-not-is_place
returns-then-not-is_place c = grind (arith, common_steps)

pub find_row-requires : goal.find_row-requires
find_row-requires c = grind (arith, common_steps)

pub returns-in_default : goal.returns-in_default
returns-in_default c = grind (arith, common_steps)
