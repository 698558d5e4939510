use Rattle.std.proofs.Common.{arith}
use Rattle.std.proofs.lemmas.Grind.{common_steps}
use Rattle.ordered_claims.proofs.readers.read_each.Goals as goal

pub returns-clause-each : goal.returns-clause-each
returns-clause-each c = grind (arith, common_steps)

pub returns-clause-as_many : goal.returns-clause-as_many
returns-clause-as_many c = grind (arith, common_steps)
