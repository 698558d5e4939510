use Rattle.std.proofs.Common.{arith}
use Rattle.std.proofs.lemmas.Grind.{common_steps}
use Rattle.ordered_claims.proofs.reader.OrderedClaims.split.Goals as goal

pub returns-clause-terms : goal.returns-clause-terms
returns-clause-terms c = grind (arith, common_steps)
