use Rattle.std.proofs.Common.{arith}
use Rattle.std.proofs.lemmas.Grind.{common_steps}
use Rattle.journal.proofs.last_by_member.insert.Goals as goal

pub returns-in-Some-clause-found : goal.returns-in-Some-clause-found
returns-in-Some-clause-found c = grind (arith, common_steps)

pub returns-in-None-clause-found : goal.returns-in-None-clause-found
returns-in-None-clause-found c = grind (arith, common_steps)
