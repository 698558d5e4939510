use Rattle.std.proofs.Common.{arith}
use Rattle.std.proofs.lemmas.Grind.{common_steps}
use Rattle.explanation.proofs.search.Walk.new.Goals as goal

pub returns-clause-readers : goal.returns-clause-readers
returns-clause-readers c = c.in_ok-readers.ensures

pub returns-clause-start : goal.returns-clause-start
returns-clause-start c = grind (arith, common_steps)
