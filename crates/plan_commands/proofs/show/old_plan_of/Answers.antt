use Rattle.std.proofs.Common.{arith}
use Rattle.std.proofs.lemmas.Grind.{common_steps}
use Rattle.plan_commands.proofs.show.old_plan_of.Goals as goal

pub returns-in-None-clause-failed : goal.returns-in-None-clause-failed
returns-in-None-clause-failed c = grind (arith, common_steps)

pub returns-in-Some-clause-failed : goal.returns-in-Some-clause-failed
returns-in-Some-clause-failed c = grind (arith, common_steps)

pub returns-in-Some-clause-named : goal.returns-in-Some-clause-named
returns-in-Some-clause-named c = grind (arith, common_steps)

pub read_or_report-requires-text-name : goal.read_or_report-requires-text-name
read_or_report-requires-text-name c = grind (arith, common_steps)
