use Rattle.std.proofs.Common.{arith}
use Rattle.std.proofs.lemmas.Grind.{common_steps}
use Rattle.evaluation.proofs.stop.ValueStop.write_line.Goals as goal

pub put-requires-2 : goal.put-requires-2
put-requires-2 c = grind (arith, common_steps)

pub returns-clause-written : goal.returns-clause-written
returns-clause-written c = grind (arith, common_steps)

pub put_argument_fault-requires : goal.put_argument_fault-requires
put_argument_fault-requires c = grind (arith, common_steps)

pub put-requires-in-Missing : goal.put-requires-in-Missing
put-requires-in-Missing c = grind (arith, common_steps)

pub put_numbered-requires : goal.put_numbered-requires
put_numbered-requires c = grind (arith, common_steps)

pub put_tables_fault-requires : goal.put_tables_fault-requires
put_tables_fault-requires c = grind (arith, common_steps)

pub put_plan_fault-requires : goal.put_plan_fault-requires
put_plan_fault-requires c = grind (arith, common_steps)

pub put-requires-in-NoMemory : goal.put-requires-in-NoMemory
put-requires-in-NoMemory c = grind (arith, common_steps)

pub put-requires : goal.put-requires
put-requires c = grind (arith, common_steps)
