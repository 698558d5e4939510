use Rattle.std.proofs.Common.{arith}
use Rattle.std.proofs.lemmas.Grind.{common_steps}
use Rattle.test_claims.proofs.settling.host_valuer.answers_of.Goals as goal

pub returns : goal.returns
returns c = grind (arith, common_steps)
