use Rattle.std.proofs.Common.{arith}
use Rattle.std.proofs.lemmas.Grind.{common_steps}
use Rattle.plan_rows.proofs.stop.TestStop.write_line.Goals as goal

pub put_cases_fault-requires : goal.put_cases_fault-requires
put_cases_fault-requires c = grind (arith, common_steps)
