use Rattle.std.proofs.Common.{arith}
use Rattle.std.proofs.lemmas.Grind.{common_steps}
use Rattle.plan_commands.proofs.whole_check.wide_report.Goals as goal

pub returns-clause-judged : goal.returns-clause-judged
returns-clause-judged c = grind (arith, common_steps)
