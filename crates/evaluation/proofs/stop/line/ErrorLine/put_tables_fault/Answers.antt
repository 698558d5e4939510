use Rattle.std.proofs.Common.{arith}
use Rattle.std.proofs.lemmas.Grind.{common_steps}
use Rattle.evaluation.proofs.stop.line.ErrorLine.put_tables_fault.Goals as goal

pub returns-in-None-clause-text : goal.returns-in-None-clause-text
returns-in-None-clause-text c = grind (arith, common_steps)

pub returns-in-Some-clause-text : goal.returns-in-Some-clause-text
returns-in-Some-clause-text c = grind (arith, common_steps)

pub returns-in-None-clause-short : goal.returns-in-None-clause-short
returns-in-None-clause-short c = grind (arith, common_steps)

pub put-requires-in-None : goal.put-requires-in-None
put-requires-in-None c = grind (arith, common_steps)

pub returns-in-Some-clause-short : goal.returns-in-Some-clause-short
returns-in-Some-clause-short c = grind (arith, common_steps)

pub put_reason-requires : goal.put_reason-requires
put_reason-requires c = grind (arith, common_steps)
