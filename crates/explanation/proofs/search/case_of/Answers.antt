use Rattle.std.proofs.Common.{rules, arith}
use Rattle.std.proofs.lemmas.Grind.{common_steps}
use Rattle.explanation.proofs.search.case_of.Goals as goal

pub returns-clause-case : goal.returns-clause-case
returns-clause-case c = search rules

pub returns-then-cutoff-position-clause-case : goal.returns-then-cutoff-position-clause-case
returns-then-cutoff-position-clause-case c = search rules

pub returns-clause-plan : goal.returns-clause-plan
returns-clause-plan c = grind (arith, common_steps)
