use Rattle.std.proofs.Common.{arith}
use Rattle.std.proofs.lemmas.Grind.{common_steps}
use Rattle.plan_rows.proofs.testing.do_test.Goals as goal

pub returns-in-Ok-clause-written : goal.returns-in-Ok-clause-written
returns-in-Ok-clause-written c = grind (arith, common_steps)

pub returns-in-Ok-clause-ok_failed : goal.returns-in-Ok-clause-ok_failed
returns-in-Ok-clause-ok_failed c = grind (arith, common_steps)

pub returns-clause-stopped : goal.returns-clause-stopped
returns-clause-stopped c = grind (arith, common_steps)
