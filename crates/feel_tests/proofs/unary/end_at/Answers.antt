use Rattle.std.proofs.Common.{arith}
use Rattle.std.proofs.lemmas.Grind.{common_steps}
use Rattle.feel_tests.proofs.unary.end_at.Goals as goal

pub returns-in_default-clause-refused : goal.returns-in_default-clause-refused
returns-in_default-clause-refused c high_in rest h = c.in_default.ensures.none h.0 rest h.1

pub returns-in-Some-end_in-clause-ok : goal.returns-in-Some-end_in-clause-ok
returns-in-Some-end_in-clause-ok c = grind (arith, common_steps)

pub returns-in-None-clause-refused : goal.returns-in-None-clause-refused
returns-in-None-clause-refused c = grind (arith, common_steps)
