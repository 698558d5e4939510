use Rattle.std.proofs.Common.{arith}
use Rattle.std.proofs.lemmas.Grind.{common_steps}
use Rattle.evaluation.proofs.stop.line.ErrorLine.put_reason.Goals as goal

pub returns-in-Some-clause-short : goal.returns-in-Some-clause-short
returns-in-Some-clause-short c = grind (arith, common_steps)

pub returns-in-Some-clause-text : goal.returns-in-Some-clause-text
returns-in-Some-clause-text c = grind (arith, common_steps)

pub put_numbered-requires-in-Some : goal.put_numbered-requires-in-Some
put_numbered-requires-in-Some c = grind (arith, common_steps)

pub returns-in_default-clause-short : goal.returns-in_default-clause-short
returns-in_default-clause-short c = grind (arith, common_steps)

pub returns-in_default-clause-text : goal.returns-in_default-clause-text
returns-in_default-clause-text c = grind (arith, common_steps)

pub put_numbered-requires : goal.put_numbered-requires
put_numbered-requires c = grind (arith, common_steps)
