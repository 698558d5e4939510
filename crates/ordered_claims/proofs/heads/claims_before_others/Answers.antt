use Rattle.std.proofs.Common.{arith}
use Rattle.std.proofs.lemmas.Grind.{common_steps}
use Rattle.ordered_claims.proofs.heads.claims_before_others.Goals as goal

pub bounds-claims-place : goal.bounds-claims-place
bounds-claims-place c = grind (arith, common_steps)
