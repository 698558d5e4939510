use Rattle.std.proofs.lemmas.Grind.{common_steps}
use Rattle.std.proofs.Common.{rules, arith}
use Rattle.fixpoint.proofs.writing.money.Goals as goal

pub returns-clause-written : goal.returns-clause-written
returns-clause-written c = search rules

pub put_whole-at-requires : goal.put_whole-at-requires
put_whole-at-requires c = grind (arith, common_steps)
