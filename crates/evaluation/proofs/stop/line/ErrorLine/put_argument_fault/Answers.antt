use Rattle.std.proofs.Common.{arith}
use Rattle.std.proofs.lemmas.Grind.{common_steps}
use Rattle.evaluation.proofs.stop.line.ErrorLine.put_argument_fault.Goals as goal

pub returns-in_default : goal.returns-in_default
returns-in_default c = grind (arith, common_steps)

pub returns-in-Literal-clause-text : goal.returns-in-Literal-clause-text
returns-in-Literal-clause-text c = grind (arith, common_steps)

pub returns-in-Literal-clause-short : goal.returns-in-Literal-clause-short
returns-in-Literal-clause-short c = grind (arith, common_steps)

pub put_cell_fault-requires : goal.put_cell_fault-requires
put_cell_fault-requires c = grind (arith, common_steps)

pub put_cause-requires-clause-room : goal.put_cause-requires-clause-room
put_cause-requires-clause-room c = grind (arith, common_steps)

pub put-requires : goal.put-requires
put-requires c = grind (arith, common_steps)
