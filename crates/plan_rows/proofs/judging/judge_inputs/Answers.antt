use Rattle.std.proofs.Common.{arith}
use Rattle.std.proofs.lemmas.Grind.{common_steps}
use Rattle.plan_rows.proofs.judging.judge_inputs.Goals as goal

pub returns-in_ok-outcome-in-Ok : goal.returns-in_ok-outcome-in-Ok
returns-in_ok-outcome-in-Ok c = grind (arith, common_steps)

pub decide-requires-clause-fields : goal.decide-requires-clause-fields
decide-requires-clause-fields c = grind (arith, common_steps)

pub judge_finding-requires-in-Ok-clause-settled : goal.judge_finding-requires-in-Ok-clause-settled
judge_finding-requires-in-Ok-clause-settled c = grind (arith, common_steps)
