use Rattle.std.proofs.lemmas.Grind.{common_steps}
use Rattle.std.proofs.Common.{arith}
use Rattle.evaluation.proofs.Causes.{cell_cause_small}
use Rattle.evaluation.proofs.stop.line.ErrorLine.put_cell_fault.Goals as goal

pub put_cause-requires-clause-small : goal.put_cause-requires-clause-small
put_cause-requires-clause-small c = omega (arith, cell_cause_small c.args.fault.now.cause)

pub returns-clause-short : goal.returns-clause-short
returns-clause-short c = grind (arith, common_steps)

pub put_numbered-requires : goal.put_numbered-requires
put_numbered-requires c = grind (arith, common_steps)

pub returns-clause-text : goal.returns-clause-text
returns-clause-text c = grind (arith, common_steps)

pub put_cause-requires-clause-room : goal.put_cause-requires-clause-room
put_cause-requires-clause-room c = grind (arith, common_steps)
