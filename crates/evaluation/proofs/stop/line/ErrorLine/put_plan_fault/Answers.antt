use Rattle.std.proofs.Common.{arith}
use Rattle.std.proofs.lemmas.Grind.{common_steps}
use Rattle.evaluation.proofs.stop.line.ErrorLine.put_plan_fault.Goals as goal

pub returns-in_default : goal.returns-in_default
returns-in_default c = grind (arith, common_steps)

pub returns-in-Cell-clause-text : goal.returns-in-Cell-clause-text
returns-in-Cell-clause-text c = grind (arith, common_steps)

pub returns-in-Cell-clause-short : goal.returns-in-Cell-clause-short
returns-in-Cell-clause-short c = grind (arith, common_steps)

pub put_cell_fault-requires : goal.put_cell_fault-requires
put_cell_fault-requires c = grind (arith, common_steps)

pub put_numbered-requires-3 : goal.put_numbered-requires-3
put_numbered-requires-3 c = grind (arith, common_steps)

pub put_numbered-requires-2 : goal.put_numbered-requires-2
put_numbered-requires-2 c = grind (arith, common_steps)

pub put_numbered-requires : goal.put_numbered-requires
put_numbered-requires c = grind (arith, common_steps)

pub put_cause-requires-clause-room : goal.put_cause-requires-clause-room
put_cause-requires-clause-room c = grind (arith, common_steps)

pub put_cause-requires-clause-small : goal.put_cause-requires-clause-small
put_cause-requires-clause-small c = grind (arith, common_steps)
